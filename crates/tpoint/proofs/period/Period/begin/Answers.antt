use Rattle.std.proofs.Common.{rules}
use Rattle.tpoint.proofs.period.Period.begin.Goals as goal

pub returns-clause-value : goal.returns-clause-value
returns-clause-value c = search rules
