use Rattle.std.proofs.Common.{rules, arith, refl}
use Rattle.std.proofs.lemmas.Int.{to_z-of_z, ints}
use Rattle.tpoint.proofs.rect.Rect.new.Goals as goal

pub invariant_of-result : goal.invariant_of-result
invariant_of-result c =
    record {
      x0_fits = search rules;
      y0_fits = search rules;
      x1_fits = search rules;
      y1_fits = search rules;
      x_order = omega (arith, ints);
      y_order = omega (arith, ints);
    }

pub returns-clause-valid : goal.returns-clause-valid
returns-clause-valid c =
    let f = c.ranges.x0 in
    let g = c.ranges.y0 in
    let h = c.ranges.x1 in
    let k = c.ranges.y1 in
    (λ _. simp to_z-of_z at (invariant_of-result c), λ _. refl)
