use Rattle.std.proofs.Common.{arith}
use Rattle.std.proofs.lemmas.Grind.{common_steps, elements}
use Rattle.world.proofs.world.World.writes.Goals as goal

pub returns-clause-no_node : goal.returns-clause-no_node
returns-clause-no_node g c = grind (arith, common_steps)

pub returns-clause-writes : goal.returns-clause-writes
returns-clause-writes g c = grind (arith, elements)

pub returns-in_err-at-clause-no_node : goal.returns-in_err-at-clause-no_node
returns-in_err-at-clause-no_node g c = grind (arith, common_steps)
