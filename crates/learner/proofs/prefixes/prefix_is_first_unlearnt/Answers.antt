use Rattle.learner.proofs.PrefixLemmas.{prefix_is, prefix_only}
use Rattle.learner.proofs.prefixes.prefix_is_first_unlearnt.Goals as goal

pub returns-clause-is : goal.returns-clause-is
returns-clause-is c = prefix_is

pub returns-clause-only : goal.returns-clause-only
returns-clause-only c = prefix_only
