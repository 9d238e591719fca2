use Rattle.wire.proofs.InPlaceLemmas.{request_number_never, hands_on}
use Rattle.wire.proofs.frames.value_reader.read_request.Goals as goal

-- no number was read
pub returns-in_err-number-clause-begins : goal.returns-in_err-number-clause-begins
returns-in_err-number-clause-begins c = λ wanted.
    absurd (hands_on _ c.in_err-number.field-0.0 c.from_residual-in_err-number.result (request_number_never _)
    c.in_err-number.ensures c.from_residual-in_err-number.ensures.1 wanted)
