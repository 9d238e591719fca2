use Rattle.std.proofs.Common.{arith}
use Rattle.std.proofs.lemmas.Grind.{elements}
use Rattle.tpoint.proofs.seq.first_fall.Goals as goal

pub returns-then-le : goal.returns-then-le
returns-then-le c = grind (arith, elements)

pub loop-k-preserved : goal.loop-k-preserved
loop-k-preserved c = grind (arith, elements)

pub returns : goal.returns
returns c = grind (arith, elements)
