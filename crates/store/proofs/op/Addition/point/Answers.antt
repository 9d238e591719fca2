use Rattle.std.proofs.Common.{rules}
use Rattle.store.proofs.op.Addition.point.Goals as goal

pub returns-clause-value : goal.returns-clause-value
returns-clause-value c = search rules
