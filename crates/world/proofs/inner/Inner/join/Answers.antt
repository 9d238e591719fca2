use Rattle.std.proofs.lemmas.Grind.{common_steps, elements}
use Rattle.std.proofs.Common.{arith}
use Rattle.world.proofs.inner.Inner.join.Goals as goal

pub returns-clause-lists : goal.returns-clause-lists
returns-clause-lists g c = grind (arith, common_steps)

pub invariant_of-self : goal.invariant_of-self
invariant_of-self g c = grind (arith, elements)
