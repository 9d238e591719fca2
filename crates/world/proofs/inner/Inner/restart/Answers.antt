use Rattle.std.proofs.Common.{arith}
use Rattle.std.proofs.lemmas.Grind.{common_steps}
use Rattle.world.proofs.inner.Inner.restart.Goals as goal

pub returns-clause-restarts : goal.returns-clause-restarts
returns-clause-restarts g c = rw c.reserve.ensures.same at c.restart_node.ensures

pub returns-clause-no_node : goal.returns-clause-no_node
returns-clause-no_node g c = grind (arith, common_steps)

pub returns-in_err-find-clause-no_node : goal.returns-in_err-find-clause-no_node
returns-in_err-find-clause-no_node g c = grind (arith, common_steps)

pub returns-in_err-reserve-clause-no_node : goal.returns-in_err-reserve-clause-no_node
returns-in_err-reserve-clause-no_node g c = grind (arith, common_steps)
