use Rattle.std.proofs.Common.{rules}
use Rattle.wire.proofs.frames.frame.Frame.open.Goals as goal

pub returns-in-Ok-clause-envelope : goal.returns-in-Ok-clause-envelope
returns-in-Ok-clause-envelope c = search rules
