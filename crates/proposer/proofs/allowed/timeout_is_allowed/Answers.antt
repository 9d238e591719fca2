use Rattle.proposer.proofs.AllowedMoves.{timeout_lem}
use Rattle.proposer.proofs.allowed.timeout_is_allowed.Goals as goal

pub returns : goal.returns
returns c = λ f i input x old new position nodes sent own at stands starts. timeout_lem f i input x old new position nodes sent own at
    stands starts
