use Rattle.wire.proofs.InPlaceLemmas.{ballot_never, hands_on}
use Rattle.wire.proofs.frames.records.read_choice.Goals as goal

-- no ballot was read
pub returns-in_err-ballot-clause-begins : goal.returns-in_err-ballot-clause-begins
returns-in_err-ballot-clause-begins c = λ wanted.
    absurd (hands_on _ c.in_err-ballot.field-0.0 c.from_residual.result (ballot_never _ _) c.in_err-ballot.ensures
    c.from_residual.ensures.1 wanted)
