use Rattle.std.proofs.Common.{SFits, rules}
use Rattle.std.proofs.lemmas.Int.{to_z-of_z}
use mir.Syntax.{w128}
use Rattle.tpoint.proofs.Gcds.{reduced}
use Rattle.tpoint.proofs.lowest_terms.reduce.Goals as goal

pub invariant_of-result : goal.invariant_of-result
invariant_of-result c =
    let fits : SFits w128 c.with_sign_of.result = search rules in
    let r = reduced c.args.num c.args.den _ _ _ _ c.requires.positive c.ranges.den
    (simp (to_z-of_z, c.ranges.num) at c.unsigned_abs-size.ensures.value)
    (simp (to_z-of_z, c.ranges.den) at c.unsigned_abs-below.ensures.value) c.gcd-divisor.ensures
    (simp (to_z-of_z, c.ranges.num) at (rw c.quotient.ensures.value at c.with_sign_of.ensures)) in
    record { positive = r.positive; lowest = simp to_z-of_z r.lowest }

pub returns : goal.returns
returns c =
    let fits : SFits w128 c.with_sign_of.result = search rules in
    let r = reduced c.args.num c.args.den _ _ _ _ c.requires.positive c.ranges.den
    (simp (to_z-of_z, c.ranges.num) at c.unsigned_abs-size.ensures.value)
    (simp (to_z-of_z, c.ranges.den) at c.unsigned_abs-below.ensures.value) c.gcd-divisor.ensures
    (simp (to_z-of_z, c.ranges.num) at (rw c.quotient.ensures.value at c.with_sign_of.ensures)) in
    simp to_z-of_z r.same
