use Rattle.std.proofs.Common.{rules}
use Rattle.predicates.proofs.stays.is_between.Goals as goal

pub returns-then-low-z : goal.returns-then-low-z
returns-then-low-z c = search rules
