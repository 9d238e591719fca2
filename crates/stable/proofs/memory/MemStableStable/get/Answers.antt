use Rattle.std.proofs.Common.{rules}
use Rattle.stable.proofs.memory.MemStableStable.get.Goals as goal

pub returns-in_ok-to_vec-in-Some-clause-told : goal.returns-in_ok-to_vec-in-Some-clause-told
returns-in_ok-to_vec-in-Some-clause-told c = search rules

pub returns-in-None-clause-told : goal.returns-in-None-clause-told
returns-in-None-clause-told c = search rules
