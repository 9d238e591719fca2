use Rattle.std.proofs.Common.{rules}
use Rattle.wire.proofs.frames.frame.Frame.sender.Goals as goal

pub returns : goal.returns
returns c = search rules
