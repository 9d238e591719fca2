use Rattle.replay.proofs.Parts.{takes_one}
use Rattle.replay.proofs.part.hand_on.Goals as goal

-- all that waited is one part
pub returns-clause-handed : goal.returns-clause-handed
returns-clause-handed g c = rw (← c.as_slice.ensures.value) (takes_one g.K.Sink.takes _ _ _ c.in_ok-take.ensures.taken)
