use Rattle.wire.proofs.PartLaws.{parts_make}
use Rattle.wire.proofs.frames.part.parts_make_the_text.Goals as goal

pub returns : goal.returns
returns c = parts_make
