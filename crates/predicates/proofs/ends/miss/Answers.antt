use Rattle.std.proofs.Common.{inl, inr, rules, SFits}
use Rattle.std.proofs.lemmas.Int.{to_z-of_z}
use mir.Syntax.{w64}
use Rattle.predicates.proofs.Passing.{NumbersFit}
use Rattle.predicates.proofs.Tests.{told_no}
use Rattle.predicates.proofs.ends.miss.Goals as goal

pub returns-then-are_beyond : goal.returns-then-are_beyond
returns-then-are_beyond c =
    let ax : SFits w64 c.args.a.now.x = search rules in
    let bx : SFits w64 c.args.b.now.x = search rules in
    let x0 : SFits w64 c.args.area.now.x0 = search rules in
    let x1 : SFits w64 c.args.area.now.x1 = search rules in
    let across = simp (to_z-of_z, ax, bx, x0, x1, c.x0.ensures.value, c.x1.ensures.value) at c.are_beyond.ensures in
    (λ t. inl (across.0 t), λ m. c.if-are_beyond.true)

pub returns-else-are_beyond : goal.returns-else-are_beyond
returns-else-are_beyond c =
    let fit : NumbersFit c.args.a.now c.args.b.now c.args.area.now = search rules in
    let across = simp (to_z-of_z, fit.ax, fit.bx, fit.x0, fit.x1, c.x0.ensures.value, c.x1.ensures.value) at c.are_beyond.ensures in
    let along = simp (to_z-of_z, fit.ay, fit.by, fit.y0, fit.y1, c.y0.ensures.value, c.y1.ensures.value) at c.are_beyond-else-are_beyond.ensures in (
      λ t. inr (along.0 t),
      λ m. elim m [ inl h ↦ absurd (told_no c.if-are_beyond.false across.1 h) | inr h ↦ along.1 h ],
    )
