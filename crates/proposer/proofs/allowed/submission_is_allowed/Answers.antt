use Rattle.proposer.proofs.AllowedTick.{submit_last_lem, submit_again_lem}
use Rattle.proposer.proofs.allowed.submission_is_allowed.Goals as goal

pub returns-clause-last : goal.returns-clause-last
returns-clause-last c = λ f i input x p r stands. submit_last_lem f i input x p r stands

pub returns-clause-again : goal.returns-clause-again
returns-clause-again c = λ f i input x p r stands. submit_again_lem f i input x p r stands
