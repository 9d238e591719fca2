use Rattle.std.proofs.Common.{rules}
use Rattle.timeindex.proofs.index.TimeIndex.remove_at.Goals as goal

pub returns-clause-value : goal.returns-clause-value
returns-clause-value c = search rules
