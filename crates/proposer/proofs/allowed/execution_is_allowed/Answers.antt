use Rattle.proposer.proofs.AllowedMoves.{execution_lem}
use Rattle.proposer.proofs.allowed.execution_is_allowed.Goals as goal

pub returns : goal.returns
returns c = λ f i input x p client number stands. execution_lem f i input x p client number stands
