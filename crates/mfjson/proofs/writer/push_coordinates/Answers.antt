use Rattle.std.proofs.Common.{◌∷◌, ◌++◌, refl, ap, ◌∙◌}
use Rattle.mfjson.specs.Document.{WritesWhere, position}
use Rattle.mfjson.proofs.Pieces.{all_listed, position_spelled}
use Rattle.mfjson.proofs.writer.push_coordinates.Goals as goal

pub returns : goal.returns
returns c =
    let first = c.in-Some.first.now in
    let old = c.args.text.now.items in
    let written = c.in_ok-push_position.ensures ∙ ap (λ s. old ++ 91 ∷ s) (position_spelled first) in
    all_listed WritesWhere c.args.points.now first _ old _ _ _ (position first.x first.y) (cc (c.in-Some.ensures.cases.0)) refl written
    c.in_ok-push_positions.ensures c.in_ok-push.ensures.items
