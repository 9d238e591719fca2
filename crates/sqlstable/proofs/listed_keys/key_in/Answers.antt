use Rattle.std.proofs.Common.{rules}
use Rattle.sqlstable.proofs.listed_keys.key_in.Goals as goal

pub returns-clause-told : goal.returns-clause-told
returns-clause-told c = search rules
