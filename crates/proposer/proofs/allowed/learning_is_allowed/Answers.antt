use Rattle.proposer.proofs.AllowedClosing.{learned_lem}
use Rattle.proposer.proofs.allowed.learning_is_allowed.Goals as goal

pub returns : goal.returns
returns c = λ f i input x p slot settled stands. learned_lem f i input x p slot settled stands
