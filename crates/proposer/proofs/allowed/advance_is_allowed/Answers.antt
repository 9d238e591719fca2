use Rattle.proposer.proofs.AllowedMoves.{advance_lem}
use Rattle.proposer.proofs.allowed.advance_is_allowed.Goals as goal

pub returns : goal.returns
returns c = λ f i input x p position up stands. advance_lem f i input x p position up stands
