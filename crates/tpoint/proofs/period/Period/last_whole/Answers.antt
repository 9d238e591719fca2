use Rattle.std.proofs.Common.{rules}
use Rattle.tpoint.proofs.period.Period.last_whole.Goals as goal

pub returns-else-self-clause-value : goal.returns-else-self-clause-value
returns-else-self-clause-value c = search rules
