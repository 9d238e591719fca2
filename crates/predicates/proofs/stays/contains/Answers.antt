use Rattle.std.proofs.Common.{sym, ◌∙◌, rules}
use Rattle.std.proofs.lemmas.Int.{to_z-of_z}
use Rattle.predicates.proofs.Passing.{NumbersFit}
use Rattle.predicates.proofs.StayLemmas.{inside_numbers}
use Rattle.predicates.proofs.Tests.{never}
use Rattle.predicates.proofs.stays.contains.Goals as goal

pub returns-then-across : goal.returns-then-across
returns-then-across c =
    let fit : NumbersFit c.args.point.now c.args.point.now c.args.area.now = search rules in
    let i = inside_numbers c.args.point.now c.args.area.now in
    let across = simp (to_z-of_z, fit.ax, fit.x0, fit.x1, c.x0.ensures.value, c.x1.ensures.value) at c.is_between-across.ensures in
    let along = simp (to_z-of_z, fit.ay, fit.y0, fit.y1, c.y0.ensures.value, c.y1.ensures.value) at c.is_between-along.ensures in
    (λ t. i.0 (across.0 c.if-across.true, along.0 t), λ h. along.1 (i.1 h).1)

pub returns-else-across : goal.returns-else-across
returns-else-across c =
    let fit : NumbersFit c.args.point.now c.args.point.now c.args.area.now = search rules in
    let i = inside_numbers c.args.point.now c.args.area.now in
    let across = simp (to_z-of_z, fit.ax, fit.x0, fit.x1, c.x0.ensures.value, c.x1.ensures.value) at c.is_between-across.ensures in
    (λ t. never (sym c.if-across.false ∙ t), λ h. across.1 (i.1 h).0)
