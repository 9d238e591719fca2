use Rattle.std.proofs.Common.{arith}
use Rattle.std.proofs.lemmas.Grind.{elements}
use Rattle.tpoint.proofs.seq.is_later.Goals as goal

pub returns : goal.returns
returns c = grind (arith, elements)
