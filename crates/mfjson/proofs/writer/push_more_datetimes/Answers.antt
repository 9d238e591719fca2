use Rattle.std.proofs.Common.{[], ◌∷◌, ◌++◌, refl, ap, sym, subst, ◌∙◌, arith}
use Rattle.std.proofs.lemmas.Grind.{common_steps}
use Rattle.serde_json.specs.Data.{string}
use Rattle.mfjson.specs.Document.{WritesWhen}
use Rattle.mfjson.proofs.AsciiTexts.{datetime_as_it_is}
use Rattle.mfjson.proofs.Pieces.{none_yet, one_more}
use Rattle.mfjson.proofs.writer.push_more_datetimes.Goals as goal

pub loop-point-init : goal.loop-point-init
loop-point-init c = none_yet WritesWhen c.args.text.now.items

pub loop-point-preserved : goal.loop-point-preserved
loop-point-preserved c =
    let point = c.point-item.result in
    let e = c.in_ok-push_datetime.ensures in
    let written : WritesWhen (string e.0) point = record { text = e.0; is_text = refl; is_datetime = e.1 } in
    let there = subst (λ p. WritesWhen (string e.0) p) c.point-item.is written in
    one_more WritesWhen c.args.points.now c.loop-point.point-index c.args.text.now.items c.loop-point.text.items _ (string e.0) point
    (omega arith) c.loop-point.invariant there
    (e.2 ∙ ap (λ s. c.loop-point.text.items ++ 44 ∷ 34 ∷ (s ++ 34 ∷ [])) (sym (datetime_as_it_is e.0 point.t e.1)))

pub returns : goal.returns
returns c = grind (arith, common_steps)
