use Rattle.std.proofs.Common.{arith}
use Rattle.std.proofs.lemmas.Grind.{elements}
use Rattle.learner.proofs.tallies.Tallies.voters_with.Goals as goal

pub returns-clause-others : goal.returns-clause-others
returns-clause-others c = grind (arith, elements)
