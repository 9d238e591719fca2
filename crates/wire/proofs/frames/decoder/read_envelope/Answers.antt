use Rattle.wire.proofs.InPlaceLemmas.{head_never, hands_on}
use Rattle.wire.proofs.frames.decoder.read_envelope.Goals as goal

-- no head was read
pub returns-in_err-head-clause-brings : goal.returns-in_err-head-clause-brings
returns-in_err-head-clause-brings c = λ wanted.
    absurd (hands_on _ c.in_err-head.field-0.0 c.from_residual.result (head_never _ _) c.in_err-head.ensures
    c.from_residual.ensures.1 wanted)
