use Rattle.std.proofs.Common.{rules}
use Rattle.synod.proofs.slot.Slot.value.Goals as goal

pub returns-clause-value : goal.returns-clause-value
returns-clause-value c = search rules

pub returns-clause-in_log : goal.returns-clause-in_log
returns-clause-in_log c = search rules
