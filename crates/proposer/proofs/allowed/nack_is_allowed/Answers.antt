use Rattle.proposer.proofs.AllowedMoves.{nack_lem}
use Rattle.proposer.proofs.allowed.nack_is_allowed.Goals as goal

pub returns : goal.returns
returns c = λ f i input x p n stands. nack_lem f i input x p n stands
