use Rattle.std.proofs.Common.{inl, inr, sym, ◌∙◌}
use Rattle.std.proofs.lemmas.Int.{to_z-of_z}
use Rattle.predicates.proofs.Passing.{numbers_fit, number_passed, bound_passed}
use Rattle.predicates.proofs.CourseLemmas.{leg_crosses}
use Rattle.predicates.proofs.Tests.{never, told_no}
use Rattle.predicates.proofs.courses.crosses.Goals as goal

pub returns-then-across_first : goal.returns-then-across_first
returns-then-across_first c =
    let n = numbers_fit _ _ _ c.requires.a_fits c.requires.b_fits c.x0.ensures.valid in
    let across = simp (to_z-of_z, n.ax, n.bx, n.x0, n.x1, c.x0.ensures.value, c.x1.ensures.value) at c.course_of-across.ensures.course in
    let along = simp (to_z-of_z, n.ay, n.by, n.y0, n.y1, c.y0.ensures.value, c.y1.ensures.value) at c.course_of-along.ensures.course in
    let both = leg_crosses c.args.a.now c.args.b.now c.args.area.now _ _ across along in (
      λ t. both.0 (c.enters_before-across_first.ensures.0 c.if-across_first.true, c.enters_before-along_first.ensures.0 t),
      λ s. c.enters_before-along_first.ensures.1 ((both.1 s).1),
    )

pub returns-else-across_first : goal.returns-else-across_first
returns-else-across_first c =
    let n = numbers_fit _ _ _ c.requires.a_fits c.requires.b_fits c.x0.ensures.valid in
    let across = simp (to_z-of_z, n.ax, n.bx, n.x0, n.x1, c.x0.ensures.value, c.x1.ensures.value) at c.course_of-across.ensures.course in
    let along = simp (to_z-of_z, n.ay, n.by, n.y0, n.y1, c.y0.ensures.value, c.y1.ensures.value) at c.course_of-along.ensures.course in (
      λ e. never (sym c.if-across_first.false ∙ e),
      λ s.
          let both = (leg_crosses c.args.a.now c.args.b.now c.args.area.now _ _ across along).1 s in
          absurd (told_no c.if-across_first.false c.enters_before-across_first.ensures.1 both.0),
    )

pub course_of-across-requires : goal.course_of-across-requires
course_of-across-requires c =
    let n = numbers_fit _ _ _ c.requires.a_fits c.requires.b_fits c.x0.ensures.valid in
    record {
      from_fits = number_passed _ c.requires.a_fits.x_fits;
      to_fits = number_passed _ c.requires.b_fits.x_fits;
      low_fits = bound_passed _ _ c.x0.ensures.value c.x0.ensures.valid.x0_fits;
      high_fits = bound_passed _ _ c.x1.ensures.value c.x1.ensures.valid.x1_fits;
      order = simp (to_z-of_z, n.x0, n.x1, c.x0.ensures.value, c.x1.ensures.value) c.x0.ensures.valid.x_order;
      near = λ h. c.requires.near (inl (simp (to_z-of_z, n.ax, n.bx, n.x0, n.x1, c.x0.ensures.value, c.x1.ensures.value) at h));
    }

pub course_of-along-requires : goal.course_of-along-requires
course_of-along-requires c =
    let n = numbers_fit _ _ _ c.requires.a_fits c.requires.b_fits c.x0.ensures.valid in
    record {
      from_fits = number_passed _ c.requires.a_fits.y_fits;
      to_fits = number_passed _ c.requires.b_fits.y_fits;
      low_fits = bound_passed _ _ c.y0.ensures.value c.y0.ensures.valid.y0_fits;
      high_fits = bound_passed _ _ c.y1.ensures.value c.y1.ensures.valid.y1_fits;
      order = simp (to_z-of_z, n.y0, n.y1, c.y0.ensures.value, c.y1.ensures.value) c.y0.ensures.valid.y_order;
      near = λ h. c.requires.near (inr (simp (to_z-of_z, n.ay, n.by, n.y0, n.y1, c.y0.ensures.value, c.y1.ensures.value) at h));
    }
