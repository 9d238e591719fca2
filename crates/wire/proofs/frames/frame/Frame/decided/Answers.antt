use Rattle.wire.proofs.FrameSeen.{carries, is_of_what_it_shows}
use Rattle.wire.proofs.frames.frame.Frame.decided.Goals as goal

pub invariant_of-result : goal.invariant_of-result
invariant_of-result c = is_of_what_it_shows _ _ c.in_ok-bytes.ensures.frame

pub returns : goal.returns
returns c = carries _ _ c.in_ok-bytes.ensures.frame
