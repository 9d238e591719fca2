use Rattle.std.proofs.Common.{rules}
use Rattle.node.proofs.node.Node+Scripted+S.writes.Goals as goal

pub returns : goal.returns
returns g c = search rules
