use Rattle.learner.proofs.AllowedLemmas.{allows_decided}
use Rattle.learner.proofs.allowed.decided_is_allowed.Goals as goal

pub returns : goal.returns
returns c = λ f i input x old new s command learned brings stands hears.
    allows_decided f i x old stands input s command brings learned new hears
