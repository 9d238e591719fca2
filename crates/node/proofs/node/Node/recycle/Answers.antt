use Rattle.std.proofs.Common.{rules}
use Rattle.node.proofs.node.Node.recycle.Goals as goal

pub returns-in-Some : goal.returns-in-Some
returns-in-Some g c = search rules
