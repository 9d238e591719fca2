use Rattle.std.proofs.Common.{[], ◌∷◌, ◌++◌, refl, ap, sym, ◌∙◌}
use Rattle.serde_json.specs.Data.{string}
use Rattle.mfjson.specs.Document.{WritesWhen}
use Rattle.mfjson.proofs.AsciiTexts.{datetime_as_it_is}
use Rattle.mfjson.proofs.Pieces.{all_listed}
use Rattle.mfjson.proofs.writer.push_datetimes.Goals as goal

pub returns : goal.returns
returns c =
    let first = c.in-Some.first.now in
    let old = c.args.text.now.items in
    let e = c.in_ok-push_datetime.ensures in
    let says : WritesWhen (string e.0) first = record { text = e.0; is_text = refl; is_datetime = e.1 } in
    let written = e.2 ∙ ap (λ s. old ++ 91 ∷ 34 ∷ (s ++ 34 ∷ [])) (sym (datetime_as_it_is e.0 first.t e.1)) in
    all_listed WritesWhen c.args.points.now first _ old _ _ _ (string e.0) (cc (c.in-Some.ensures.cases.0)) says written
    c.in_ok-push_more_datetimes.ensures c.in_ok-push.ensures.items
