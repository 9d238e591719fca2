use Rattle.std.proofs.Common.{◌≡◌, pos, to_z, of_z, arith}
use Rattle.std.proofs.lemmas.Int.{ints}
use mir.Syntax.{w64}
use Rattle.tpoint.specs.Moving.{moment}
use Rattle.tpoint.specs.Extents.{Before}
use Rattle.predicates.specs.Windows.{instant_at}
use Rattle.predicates.proofs.LegLemmas.{part_of_part, no_part, in_time_both, timed}
use Rattle.predicates.proofs.legs.time_window.Goals as goal

pub returns-in_err-begun : goal.returns-in_err-begun
returns-in_err-begun c =
    let a = c.args.a.now in
    let b = c.args.b.now in
    let from : to_z w64 (of_z w64 c.ms-from.result) ≡ pos a.t = omega (arith, ints) in
    let to : to_z w64 (of_z w64 c.ms-to.result) ≡ pos b.t = omega (arith, ints) in
    let begin : to_z w64 (of_z w64 c.ms.result) ≡ pos c.args.period.now.begin = omega (arith, ints) in
    rw c.from_residual.ensures
    (λ u at.
    no_part c.whole.result (λ u. Before c.args.period.now.begin_in (moment c.args.period.now.begin) (instant_at a b u)) _
    (rw (from, to, begin, c.begin_in.ensures.value) at c.in_err-begun.ensures)
    (λ u l. ((in_time_both a b c.args.period.now u).1 l).0)
    u
    ((c.whole.ensures u).1 at.in_leg, at.in_period))

pub returns : goal.returns
returns c =
    let a = c.args.a.now in
    let b = c.args.b.now in
    let from : to_z w64 (of_z w64 c.ms-from.result) ≡ pos a.t = omega (arith, ints) in
    let to : to_z w64 (of_z w64 c.ms-to.result) ≡ pos b.t = omega (arith, ints) in
    let begin : to_z w64 (of_z w64 c.ms.result) ≡ pos c.args.period.now.begin = omega (arith, ints) in
    let end : to_z w64 (of_z w64 c.ms-2.result) ≡ pos c.args.period.now.end = omega (arith, ints) in
    timed a b c.args.period.now c.whole.result _ c.whole.ensures
    (part_of_part c.whole.result c.in_ok-begun.begun _ _ _ _
    (rw (from, to, begin, c.begin_in.ensures.value) at c.in_ok-begun.ensures)
    (in_time_both a b c.args.period.now)
    (rw (from, to, end, c.end_in.ensures.value) at c.at_most.ensures))
