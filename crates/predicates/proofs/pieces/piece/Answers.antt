use Rattle.std.proofs.Common.{◌≡◌, ◌+◌, length, rules, arith}
use Rattle.std.proofs.lemmas.Grind.{elements}
use Rattle.tpoint.proofs.PlaceLemmas.{stands_at}
use Rattle.tpoint.specs.Moving.{OnLeg, vertex}
use Rattle.tpoint.specs.Pieces.{AtPoint, HeldUntil}
use Rattle.predicates.proofs.StayLemmas.{answers_same, answers_nothing}
use Rattle.tpoint.proofs.PieceLemmas.{discrete_to, discrete_from, held_to, held_from, last_to}
use Rattle.tpoint.proofs.PieceLemmas.{last_from, leg_to, leg_from, single_to, single_from, no_leg}
use Rattle.predicates.proofs.pieces.piece.Goals as goal

pub leg-requires-clause-a_fits : goal.leg-requires-clause-a_fits
leg-requires-clause-a_fits c =
    c.requires.in_range c.args.i _ (stands_at _ _ _ c.requires.in_list c.index-points-i-then-i-points-2-2.is)

pub leg-requires-clause-b_fits : goal.leg-requires-clause-b_fits
leg-requires-clause-b_fits c =
    c.requires.in_range (c.args.i + 1) _ (stands_at _ _ _ c.if-i-points-2.true c.index-points-i-then-i-points-2-3.is)

pub returns-in-Discrete : goal.returns-in-Discrete
returns-in-Discrete c =
    let ps = c.args.points.now in
    let p = c.index-points-i.result in
    let e = stands_at ps c.args.i p c.requires.in_list c.index-points-i.is in
    rw c.in-Discrete.is
    (answers_same c.args.question (AtPoint p) _ _ _ _
    (discrete_to ps c.args.i p e)
    (discrete_from ps c.args.i p e)
    (c.at_point.ensures c.args.question))

pub returns-then-i-points : goal.returns-then-i-points
returns-then-i-points c =
    let ps = c.args.points.now in
    let p = c.index-points-i-then-i-points.result in
    let q = c.index-points-i-then-i-points-2.result in
    let e = stands_at ps c.args.i p c.requires.in_list c.index-points-i-then-i-points.is in
    let f = stands_at ps (c.args.i + 1) q c.if-i-points.true c.index-points-i-then-i-points-2.is in
    rw c.in-Step.is
    (answers_same c.args.question (HeldUntil p q) _ _ _ _
    (held_to ps c.requires.increasing c.args.i p q e f)
    (held_from ps c.args.i p q e f)
    (c.held.ensures c.args.question))

pub returns-else-i-points : goal.returns-else-i-points
returns-else-i-points c =
    let ps = c.args.points.now in
    let p = c.index-points-i-else-i-points.result in
    let e = stands_at ps c.args.i p c.requires.in_list c.index-points-i-else-i-points.is in
    rw c.in-Step.is
    (answers_same c.args.question (AtPoint p) _ _ _ _
    (last_to ps c.args.i p c.if-i-points.false e)
    (last_from ps c.requires.increasing c.args.i p c.if-i-points.false e)
    (c.at_point-else-i-points.ensures c.args.question))

pub returns-then-i-points-2 : goal.returns-then-i-points-2
returns-then-i-points-2 c =
    let ps = c.args.points.now in
    let p = c.index-points-i-then-i-points-2-2.result in
    let q = c.index-points-i-then-i-points-2-3.result in
    let e = stands_at ps c.args.i p c.requires.in_list c.index-points-i-then-i-points-2-2.is in
    let f = stands_at ps (c.args.i + 1) q c.if-i-points-2.true c.index-points-i-then-i-points-2-3.is in
    rw c.in-Linear.is
    (answers_same c.args.question (OnLeg (vertex p) (vertex q)) _ _ _ _
    (leg_to ps c.args.i p q e f)
    (leg_from ps c.args.i p q c.if-i-points-2.true e f)
    c.leg.ensures)

pub returns-then-points-eq1 : goal.returns-then-points-eq1
returns-then-points-eq1 c =
    let ps = c.args.points.now in
    let p = c.index-points-i-then-points-eq1.result in
    let e = stands_at ps c.args.i p c.requires.in_list c.index-points-i-then-points-eq1.is in
    let one : length ps ≡ 1 = search rules in
    rw c.in-Linear.is
    (answers_same c.args.question (AtPoint p) _ _ _ _
    (single_to ps c.args.i p one e)
    (single_from ps c.args.i p one e)
    (c.at_point-then-points-eq1.ensures c.args.question))

pub returns-else-points-eq1 : goal.returns-else-points-eq1
returns-else-points-eq1 c =
    let ps = c.args.points.now in
    let many : length ps ≡ 1 → ⊥ = search rules in
    rw c.in-Linear.is (answers_nothing c.args.question _ _ _ (no_leg ps c.args.i c.if-i-points-2.false many))

pub held-requires : goal.held-requires
held-requires c = grind (arith, elements)

pub leg-requires-clause-later : goal.leg-requires-clause-later
leg-requires-clause-later c = grind (arith, elements)
