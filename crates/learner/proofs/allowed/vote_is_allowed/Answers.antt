use Rattle.learner.proofs.AllowedLemmas.{allows_vote}
use Rattle.learner.proofs.allowed.vote_is_allowed.Goals as goal

pub returns : goal.returns
returns c = λ f i from x old new v learned same stands hears. allows_vote f i x old stands from v same learned new hears
