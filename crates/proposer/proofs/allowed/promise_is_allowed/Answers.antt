use Rattle.proposer.proofs.AllowedPromise.{promise_lem}
use Rattle.proposer.proofs.allowed.promise_is_allowed.Goals as goal

pub returns : goal.returns
returns c = λ f i from x p promise of_all a_node stands. promise_lem f i from x p promise of_all a_node stands
