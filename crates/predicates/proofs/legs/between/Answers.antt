use Rattle.std.proofs.Common.{true}
use Rattle.std.proofs.lemmas.Int.{to_z-of_z}
use Rattle.tpoint.specs.Fraction.{whole}
use Rattle.tpoint.specs.Ways.{way}
use Rattle.tpoint.specs.Extents.{Before}
use Rattle.predicates.proofs.LegLemmas.{part_of_part, no_part, between_both}
use Rattle.predicates.proofs.Passing.{near_passed}
use Rattle.predicates.proofs.legs.between.Goals as goal

pub returns-in_err-above : goal.returns-in_err-above
returns-in_err-above c =
    let a = c.args in
    let r = c.ranges in
    rw c.from_residual.ensures
    (no_part a.window (λ u. Before true (whole a.low) (way a.from a.to u)) _
    (simp (to_z-of_z, r.from, r.to, r.low) at c.in_err-above.ensures)
    (λ u b. ((between_both a.low a.high (way a.from a.to u)).1 b).0))

pub returns : goal.returns
returns c =
    let a = c.args in
    let r = c.ranges in
    part_of_part a.window c.in_ok-above.above _ _ _ _
    (simp (to_z-of_z, r.from, r.to, r.low) at c.in_ok-above.ensures)
    (λ u. between_both a.low a.high (way a.from a.to u))
    (simp (to_z-of_z, r.from, r.to, r.high) at c.at_most.ensures)

pub at_least-requires : goal.at_least-requires
at_least-requires c = near_passed _ _ _ c.requires.from_fits c.requires.to_fits c.requires.low_fits

pub at_most-requires : goal.at_most-requires
at_most-requires c = near_passed _ _ _ c.requires.from_fits c.requires.to_fits c.requires.high_fits
