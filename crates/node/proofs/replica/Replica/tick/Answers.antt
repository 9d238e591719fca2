use Rattle.std.proofs.Common.{rules}
use Rattle.node.proofs.replica.Replica.tick.Goals as goal

pub returns-clause-takes : goal.returns-clause-takes
returns-clause-takes c = search rules
