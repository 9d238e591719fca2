use Rattle.std.proofs.Common.{rules}
use Rattle.predicates.proofs.ends.is_within.Goals as goal

pub returns-then-le : goal.returns-then-le
returns-then-le c = search rules
