use Rattle.std.proofs.Common.{arith}
use Rattle.std.proofs.lemmas.Grind.{elements}
use Rattle.learner.proofs.tallies.Tallies.take.Goals as goal

pub returns : goal.returns
returns c = grind (arith, elements)
