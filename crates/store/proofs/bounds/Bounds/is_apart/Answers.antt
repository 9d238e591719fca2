use Rattle.std.proofs.Common.{inl, inr, rules}
use Rattle.std.proofs.lemmas.Int.{to_z-of_z}
use Rattle.predicates.proofs.Tests.{told_no}
use Rattle.store.proofs.BoundsLemmas.{BoundsFit, area_fits}
use Rattle.store.proofs.bounds.Bounds.is_apart.Goals as goal

pub returns-then-across : goal.returns-then-across
returns-then-across c =
    let s : BoundsFit c.args.self = search rules in
    let r = area_fits c.args.area.now c.x0.ensures.valid in
    let across = simp (to_z-of_z, s.x0, s.x1, r.x0, r.x1, c.x0.ensures.value, c.x1.ensures.value) at c.are_apart-across.ensures in
    (λ t. inl (across.0 t), λ m. c.if-across.true)

pub returns-else-across : goal.returns-else-across
returns-else-across c =
    let s : BoundsFit c.args.self = search rules in
    let r = area_fits c.args.area.now c.x0.ensures.valid in
    let across = simp (to_z-of_z, s.x0, s.x1, r.x0, r.x1, c.x0.ensures.value, c.x1.ensures.value) at c.are_apart-across.ensures in
    let along = simp (to_z-of_z, s.y0, s.y1, r.y0, r.y1, c.y0.ensures.value, c.y1.ensures.value) at c.are_apart-along.ensures in (
      λ t. inr (along.0 t),
      λ m. elim m [ inl h ↦ absurd (told_no c.if-across.false across.1 h) | inr h ↦ along.1 h ],
    )
