use Rattle.std.proofs.lemmas.Int.{to_z-of_z}
use Rattle.predicates.proofs.Passing.{numbers_fit, number_passed, bound_passed}
use Rattle.predicates.proofs.LegLemmas.{leaves_across, leaves_along}
use Rattle.predicates.proofs.legs.leaves.Goals as goal

pub returns-then-strays : goal.returns-then-strays
returns-then-strays c =
    let fit = numbers_fit _ _ _ c.requires.a_fits c.requires.b_fits c.x0.ensures.valid in
    leaves_across c.args.time c.args.a.now c.args.b.now c.args.area.now
    (simp (to_z-of_z, fit.ax, fit.bx, fit.x0, fit.x1, c.x0.ensures.value, c.x1.ensures.value) at c.if-strays.ensures)

pub returns : goal.returns
returns c =
    let fit = numbers_fit _ _ _ c.requires.a_fits c.requires.b_fits c.x0.ensures.valid in
    leaves_along c.args.time c.args.a.now c.args.b.now c.args.area.now c.strays-2.result
    (simp (to_z-of_z, fit.ax, fit.bx, fit.x0, fit.x1, c.x0.ensures.value, c.x1.ensures.value) at c.if-strays.ensures)
    (simp (to_z-of_z, fit.ay, fit.by, fit.y0, fit.y1, c.y0.ensures.value, c.y1.ensures.value) at c.strays-2.ensures)

pub strays-requires : goal.strays-requires
strays-requires c =
    record {
      from_fits = number_passed _ c.requires.a_fits.x_fits;
      to_fits = number_passed _ c.requires.b_fits.x_fits;
      low_fits = bound_passed _ _ c.x0.ensures.value c.x0.ensures.valid.x0_fits;
      high_fits = bound_passed _ _ c.x1.ensures.value c.x1.ensures.valid.x1_fits;
    }

pub strays-requires-2 : goal.strays-requires-2
strays-requires-2 c =
    record {
      from_fits = number_passed _ c.requires.a_fits.y_fits;
      to_fits = number_passed _ c.requires.b_fits.y_fits;
      low_fits = bound_passed _ _ c.y0.ensures.value c.y0.ensures.valid.y0_fits;
      high_fits = bound_passed _ _ c.y1.ensures.value c.y1.ensures.valid.y1_fits;
    }
