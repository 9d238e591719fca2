use Rattle.proposer.proofs.AllowedPropose.{propose_lem}
use Rattle.proposer.proofs.allowed.proposing_is_allowed.Goals as goal

pub returns : goal.returns
returns c = λ f i input x p l nodes noop some_node at learner stands. propose_lem f i input x p l nodes noop some_node at learner stands
