use Rattle.std.proofs.Common.{arith}
use Rattle.std.proofs.lemmas.Grind.{common_steps}
use Rattle.world.proofs.inner.Inner.input.Goals as goal

pub returns-clause-takes : goal.returns-clause-takes
returns-clause-takes g c = (c.take-taken.result, rw c.reserve.ensures.same at c.take-taken.ensures.taken)

pub returns-clause-no_node : goal.returns-clause-no_node
returns-clause-no_node g c = grind (arith, common_steps)

pub returns-in_err-find-clause-no_node : goal.returns-in_err-find-clause-no_node
returns-in_err-find-clause-no_node g c = grind (arith, common_steps)

pub returns-in_err-reserve-clause-no_node : goal.returns-in_err-reserve-clause-no_node
returns-in_err-reserve-clause-no_node g c = grind (arith, common_steps)
