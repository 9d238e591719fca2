use Rattle.std.proofs.Common.{sym}
use Rattle.std.proofs.lemmas.Int.{to_z-of_z}
use Rattle.predicates.proofs.LegLemmas.{stray_below, stray_above}
use Rattle.predicates.proofs.Passing.{near_passed}
use Rattle.predicates.proofs.legs.strays.Goals as goal

pub returns-then-is_some : goal.returns-then-is_some
returns-then-is_some c =
    let a = c.args in
    let r = c.ranges in
    stray_below a.window a.from a.to a.low a.high c.at_most.result (sym c.if-is_some.ensures)
    (simp (to_z-of_z, r.from, r.to, r.low) at c.at_most.ensures)

pub returns : goal.returns
returns c =
    let a = c.args in
    let r = c.ranges in
    stray_above a.window a.from a.to a.low a.high c.at_most.result c.at_least.result c.is_some-2.result (sym c.if-is_some.ensures)
    (simp (to_z-of_z, r.from, r.to, r.low) at c.at_most.ensures)
    (simp (to_z-of_z, r.from, r.to, r.high) at c.at_least.ensures)
    c.is_some-2.ensures

pub at_most-requires : goal.at_most-requires
at_most-requires c = near_passed _ _ _ c.requires.from_fits c.requires.to_fits c.requires.low_fits

pub at_least-requires : goal.at_least-requires
at_least-requires c = near_passed _ _ _ c.requires.from_fits c.requires.to_fits c.requires.high_fits
