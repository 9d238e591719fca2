use Rattle.learner.specs.State.{learning_of}
use Rattle.learner.proofs.PrefixLemmas.{prefix_only}
use Rattle.learner.proofs.learner.Learner.prefix.Goals as goal

pub returns-clause-prefix : goal.returns-clause-prefix
returns-clause-prefix c = prefix_only (learning_of c.args.self.now) _ c.args.self.now.counted
