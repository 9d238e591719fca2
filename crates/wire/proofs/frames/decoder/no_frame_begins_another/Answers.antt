use Rattle.wire.proofs.FrameLaws.{no_beginning}
use Rattle.wire.proofs.frames.decoder.no_frame_begins_another.Goals as goal

pub returns : goal.returns
returns c = no_beginning
