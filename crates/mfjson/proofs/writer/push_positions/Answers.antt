use Rattle.std.proofs.Common.{◌∷◌, ◌++◌, refl, ap, subst, ◌∙◌, arith}
use Rattle.std.proofs.lemmas.Grind.{common_steps}
use Rattle.mfjson.specs.Document.{WritesWhere, position}
use Rattle.mfjson.proofs.Pieces.{none_yet, one_more, position_spelled}
use Rattle.mfjson.proofs.writer.push_positions.Goals as goal

pub loop-point-init : goal.loop-point-init
loop-point-init c = none_yet WritesWhere c.args.text.now.items

pub loop-point-preserved : goal.loop-point-preserved
loop-point-preserved c =
    let point = c.point-item.result in
    let written = position point.x point.y in
    let there = subst (λ p. WritesWhere written p) c.point-item.is refl in
    one_more WritesWhere c.args.points.now c.loop-point.point-index c.args.text.now.items c.loop-point.text.items _ written point
    (omega arith) c.loop-point.invariant there
    (c.in_ok-push_position.ensures ∙ ap (λ s. c.loop-point.text.items ++ 44 ∷ s) (position_spelled point))

pub returns : goal.returns
returns c = grind (arith, common_steps)
