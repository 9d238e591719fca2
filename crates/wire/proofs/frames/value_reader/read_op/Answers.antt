use Rattle.wire.proofs.InPlaceLemmas.{append_never, remove_never, tells_other}
use Rattle.wire.proofs.frames.value_reader.read_op.Goals as goal

-- an addition
pub returns-in-2-clause-begins : goal.returns-in-2-clause-begins
returns-in-2-clause-begins c = λ wanted.
    absurd (tells_other _ c.read_append.result _ (append_never _) c.read_append.ensures.read wanted)

-- a removal
pub returns-in-3-clause-begins : goal.returns-in-3-clause-begins
returns-in-3-clause-begins c = λ wanted.
    absurd (tells_other _ c.read_remove.result _ (remove_never _) c.read_remove.ensures.read wanted)
