use Rattle.std.proofs.Common.{◌≡◌, ◌+◌, ◌<◌, ◌≤◌, length, rules, arith}
use Rattle.std.proofs.lemmas.Grind.{elements}
use Rattle.tpoint.proofs.PlaceLemmas.{stands_at}
use Rattle.tpoint.specs.Moving.{OnLeg, moment, vertex}
use Rattle.tpoint.specs.Pieces.{AtPoint, HeldUntil}
use Rattle.tpoint.proofs.PieceLemmas.{discrete_to, discrete_from, held_to, held_from, last_to, last_from, leg_to, leg_from, single_to}
use Rattle.tpoint.proofs.PieceLemmas.{single_from, no_leg}
use Rattle.tpoint.proofs.ValueLemmas.{value_same}
use Rattle.tpoint.proofs.values.piece_value.Goals as goal

pub on_leg-requires-clause-a_fits : goal.on_leg-requires-clause-a_fits
on_leg-requires-clause-a_fits c =
    c.requires.in_range c.args.i _ (stands_at _ _ _ c.requires.in_list c.index-points-i-else-last-2-2.is)

pub on_leg-requires-clause-b_fits : goal.on_leg-requires-clause-b_fits
on_leg-requires-clause-b_fits c =
    let within : c.args.i + 1 < length c.args.points.now = search rules in
    c.requires.in_range (c.args.i + 1) _ (stands_at _ _ _ within c.index-points-i-else-last-2-3.is)

pub returns-in-Discrete : goal.returns-in-Discrete
returns-in-Discrete c =
    let ps = c.args.points.now in
    let t = moment c.args.t in
    let p = c.index-points-i.result in
    let e = stands_at ps c.args.i p c.requires.in_list c.index-points-i.is in
    rw c.in-Discrete.is (value_same (AtPoint p t) _ _ (discrete_to ps c.args.i p e t) (discrete_from ps c.args.i p e t) c.at_point.ensures)

pub returns-then-last : goal.returns-then-last
returns-then-last c =
    let ps = c.args.points.now in
    let t = moment c.args.t in
    let p = c.index-points-i-then-last.result in
    let e = stands_at ps c.args.i p c.requires.in_list c.index-points-i-then-last.is in
    let over : length ps ≤ c.args.i + 1 = search rules in
    rw c.in-Step.is (value_same (AtPoint p t) _ _ (last_to ps c.args.i p over e t)
    (last_from ps c.requires.increasing c.args.i p over e t) c.at_point-then-last.ensures)

pub returns-else-last : goal.returns-else-last
returns-else-last c =
    let ps = c.args.points.now in
    let t = moment c.args.t in
    let p = c.index-points-i-else-last.result in
    let q = c.index-points-i-else-last-2.result in
    let within : c.args.i + 1 < length ps = search rules in
    let e = stands_at ps c.args.i p c.requires.in_list c.index-points-i-else-last.is in
    let f = stands_at ps (c.args.i + 1) q within c.index-points-i-else-last-2.is in
    rw c.in-Step.is (value_same (HeldUntil p q t) _ _ (held_to ps c.requires.increasing c.args.i p q e f t)
    (held_from ps c.args.i p q e f t) c.until_next.ensures)

pub returns-then-points-eq1 : goal.returns-then-points-eq1
returns-then-points-eq1 c =
    let ps = c.args.points.now in
    let t = moment c.args.t in
    let p = c.index-points-i-then-points-eq1.result in
    let e = stands_at ps c.args.i p c.requires.in_list c.index-points-i-then-points-eq1.is in
    let one : length ps ≡ 1 = search rules in
    rw c.in-Linear.is (value_same (AtPoint p t) _ _ (single_to ps c.args.i p one e t)
    (single_from ps c.args.i p one e t) c.at_point-then-points-eq1.ensures)

pub returns-then-last-2 : goal.returns-then-last-2
returns-then-last-2 c =
    let ps = c.args.points.now in
    let over : length ps ≤ c.args.i + 1 = search rules in
    let many : length ps ≡ 1 → ⊥ = search rules in
    rw c.in-Linear.is (no_leg ps c.args.i over many (moment c.args.t))

pub returns-else-last-2 : goal.returns-else-last-2
returns-else-last-2 c =
    let ps = c.args.points.now in
    let t = moment c.args.t in
    let p = c.index-points-i-else-last-2-2.result in
    let q = c.index-points-i-else-last-2-3.result in
    let within : c.args.i + 1 < length ps = search rules in
    let e = stands_at ps c.args.i p c.requires.in_list c.index-points-i-else-last-2-2.is in
    let f = stands_at ps (c.args.i + 1) q within c.index-points-i-else-last-2-3.is in
    rw c.in-Linear.is (value_same (OnLeg (vertex p) (vertex q) t) _ _ (leg_to ps c.args.i p q e f t)
    (leg_from ps c.args.i p q within e f t) c.on_leg.ensures)

pub on_leg-requires-clause-later : goal.on_leg-requires-clause-later
on_leg-requires-clause-later c = grind (arith, elements)
