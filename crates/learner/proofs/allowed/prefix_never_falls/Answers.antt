use Rattle.learner.proofs.PrefixLemmas.{vote_grows, decided_grows}
use Rattle.learner.proofs.allowed.prefix_never_falls.Goals as goal

pub returns-clause-vote : goal.returns-clause-vote
returns-clause-vote c = λ old new from v learned hears. vote_grows old new from v learned hears

pub returns-clause-decided : goal.returns-clause-decided
returns-clause-decided c = λ old new s d learned hears. decided_grows old new s d learned hears
