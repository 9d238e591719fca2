use Rattle.std.proofs.Common.{rules}
use Rattle.node.proofs.sends.send.Goals as goal

pub returns : goal.returns
returns c = search rules
