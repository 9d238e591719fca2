use Rattle.std.proofs.Common.{rules}
use Rattle.node.proofs.node.Node.position.Goals as goal

pub returns-in-None-clause-value : goal.returns-in-None-clause-value
returns-in-None-clause-value g c = search rules
