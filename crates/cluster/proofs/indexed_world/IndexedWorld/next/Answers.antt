use Rattle.std.proofs.Common.{arith}
use Rattle.std.proofs.lemmas.Grind.{elements}
use Rattle.cluster.proofs.indexed_world.IndexedWorld.next.Goals as goal

pub returns : goal.returns
returns c = grind (arith, elements)
