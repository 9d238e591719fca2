use Rattle.std.proofs.Common.{arith}
use Rattle.std.proofs.lemmas.Int.{ints}
use Rattle.tpoint.proofs.ValueLemmas.{lowest_over_one}
use Rattle.tpoint.proofs.frac.FracFromI64.from.Goals as goal

pub invariant_of-result : goal.invariant_of-result
invariant_of-result c = record { positive = omega (arith, ints); lowest = lowest_over_one _ }
