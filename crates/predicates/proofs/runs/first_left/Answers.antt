use Rattle.std.proofs.Common.{◌+◌, ◌≤◌, IsTrue, rules, arith}
use Rattle.tpoint.proofs.PlaceLemmas.{stands_at}
use Rattle.tpoint.specs.Extents.{last_whole}
use Rattle.predicates.proofs.SequenceLemmas.{first_inside, stayed_more}
use Rattle.predicates.proofs.runs.first_left.Goals as goal

pub loop-k-init : goal.loop-k-init
loop-k-init c =
    let ps = c.args.points.now in
    let a = c.index-points-from.result in
    let e = stands_at ps c.args.from a c.requires.in_list c.index-points-from.is in
    let inside : IsTrue c.contains.result = let f = c.if-not-contains.false in search rules in
    (λ j h l. absurd (omega (arith, h, l)), first_inside ps c.args.area.now c.args.from a e (c.contains.ensures.0 inside))

pub loop-k-preserved : goal.loop-k-preserved
loop-k-preserved c =
    let ps = c.args.points.now in
    let k = c.loop-k.k in
    let b = c.index-points-k.result in
    let f = stands_at ps (k + 1) b (omega arith) c.index-points-k.is in
    let has = c.last_whole.ensures.has_instant in
    let over : b.t ≤ last_whole c.args.period.now = search rules in
    let inside : IsTrue c.contains-in-loop-k.result = let g = c.if-not-contains-2.false in search rules in
    stayed_more ps _ _ c.args.from k b has c.requires.increasing c.requires.begun (omega arith) f over
    (c.contains-in-loop-k.ensures.0 inside)
    c.loop-k.invariant.0 c.loop-k.invariant.1
