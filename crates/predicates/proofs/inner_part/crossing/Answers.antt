use Rattle.std.proofs.Common.{rules}
use Rattle.predicates.proofs.inner_part.crossing.Goals as goal

pub returns-clause-num : goal.returns-clause-num
returns-clause-num c = search rules
