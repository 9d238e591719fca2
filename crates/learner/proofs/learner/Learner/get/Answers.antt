use Rattle.std.proofs.Common.{rules}
use Rattle.learner.proofs.learner.Learner.get.Goals as goal

pub returns-in-None : goal.returns-in-None
returns-in-None c = search rules
