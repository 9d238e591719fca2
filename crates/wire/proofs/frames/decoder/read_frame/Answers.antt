use Rattle.std.proofs.Common.{rules}
use Rattle.wire.specs.FrameReading.{frame_in}
use Rattle.wire.proofs.frames.decoder.read_frame.Goals as goal

pub returns-clause-read : goal.returns-clause-read
unfolding frame_in
returns-clause-read c = search rules
