-- Coordinates are in range, so a point of two is added.
use Rattle.std.proofs.Common.{refl}
use Rattle.tpoint.specs.Moving.{InBounds}
use Rattle.tpoint.specs.declared.point.Point.{Point}
use Rattle.schedule.proofs.Coordinates.{is_kept}
use Rattle.schedule.proofs.RowLemmas.{some_op}
use Rattle.schedule.proofs.submits.appended.Goals as goal

pub returns : goal.returns
returns c =
    let x = c.in-Some-coordinate in
    let y = c.in-Some-coordinate-2 in
    let at : Point = record { t = c.in-Some-instant.t; x = x.x; y = y.y } in
    let in_bounds : InBounds at = record { x_fits = x.ensures.in_range; y_fits = y.ensures.in_range } in
    let x_kept = is_kept c.args.across.now x.x x.ensures in
    let y_kept = is_kept c.args.along.now y.y y.ensures in
    some_op c.append.result _ _ _ (c.append.ensures.in_range.1 (rw (x_kept, y_kept) in_bounds))
    (rw (x_kept, y_kept) at c.append.ensures.value) (λ n. (
      (c.in-Some.id, (at.t, (at.x, (at.y, tt)))),
      (refl, (c.in-Some.ensures, (c.in-Some-instant.ensures, (x.ensures, (y.ensures, tt))))),
      refl,
    ))
