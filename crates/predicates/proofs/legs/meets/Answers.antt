use Rattle.std.proofs.lemmas.Int.{to_z-of_z}
use Rattle.tpoint.specs.Ways.{way}
use Rattle.tpoint.specs.Extents.{Between, Inside}
use Rattle.predicates.specs.Windows.{place_at}
use Rattle.predicates.proofs.Passing.{numbers_fit, number_passed, bound_passed}
use Rattle.predicates.proofs.LegLemmas.{part_of_part, no_part, inside_both, some_in}
use Rattle.predicates.proofs.Tests.{never}
use Rattle.predicates.proofs.legs.meets.Goals as goal

pub returns-in-Some : goal.returns-in-Some
returns-in-Some c =
    let a = c.args.a.now in
    let b = c.args.b.now in
    let r = c.args.area.now in
    let fit = numbers_fit a b r c.requires.a_fits c.requires.b_fits c.x0.ensures.valid in
    rw c.is_some.ensures
    (some_in c.args.time (λ u. Inside (place_at a b u) r) c.between-in-Some.result
    (part_of_part c.args.time c.in-Some.across _ _ _ _
    (simp (to_z-of_z, fit.ax, fit.bx, fit.x0, fit.x1, c.x0.ensures.value, c.x1.ensures.value) at c.in-Some.ensures)
    (inside_both a b r)
    (simp (to_z-of_z, fit.ay, fit.by, fit.y0, fit.y1, c.y0.ensures.value, c.y1.ensures.value) at c.between-in-Some.ensures)))

pub returns-in-None : goal.returns-in-None
returns-in-None c =
    let a = c.args.a.now in
    let b = c.args.b.now in
    let r = c.args.area.now in
    let fit = numbers_fit a b r c.requires.a_fits c.requires.b_fits c.x0.ensures.valid in (
      λ e. never e,
      λ s. absurd
          (no_part c.args.time (λ u. Between r.x0 r.x1 (way a.x b.x u)) (λ u. Inside (place_at a b u) r)
          (simp (to_z-of_z, fit.ax, fit.bx, fit.x0, fit.x1, c.x0.ensures.value, c.x1.ensures.value) at c.in-None.ensures)
          (λ u i. i.across)
          s.at
          (s.in_window, s.holds)),
    )

pub between-requires : goal.between-requires
between-requires c =
    record {
      from_fits = number_passed _ c.requires.a_fits.x_fits;
      to_fits = number_passed _ c.requires.b_fits.x_fits;
      low_fits = bound_passed _ _ c.x0.ensures.value c.x0.ensures.valid.x0_fits;
      high_fits = bound_passed _ _ c.x1.ensures.value c.x1.ensures.valid.x1_fits;
    }

pub between-requires-in-Some : goal.between-requires-in-Some
between-requires-in-Some c =
    record {
      from_fits = number_passed _ c.requires.a_fits.y_fits;
      to_fits = number_passed _ c.requires.b_fits.y_fits;
      low_fits = bound_passed _ _ c.y0.ensures.value c.y0.ensures.valid.y0_fits;
      high_fits = bound_passed _ _ c.y1.ensures.value c.y1.ensures.valid.y1_fits;
    }
