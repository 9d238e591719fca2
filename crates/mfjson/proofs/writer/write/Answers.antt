use Rattle.std.proofs.Common.{sym, subst}
use Rattle.std.specs.Prelude.{IfOk}
use Rattle.std.proofs.lemmas.Result.{IfOk-weaker}
use Rattle.mfjson.specs.Document.{IsCanonical, IsDocumentOf}
use Rattle.mfjson.proofs.OneFeature.{document_of_one}
use Rattle.mfjson.proofs.writer.write.Goals as goal

pub returns : goal.returns
returns c =
    let f = c.args.feature.now in
    let result = c.write_after.result in
    let of_this : IfOk result (λ text. IsDocumentOf text.items f) =
    IfOk-weaker result _ _ (λ text w. subst (λ t. IsDocumentOf t f) (sym w.spelling) w.of_this) c.write_after.ensures in
    record {
      canonical = IfOk-weaker result _ _ (λ text w. subst (λ t. IsCanonical t f) (sym w.spelling) w.canonical) c.write_after.ensures;
      of_this = of_this;
      of_no_other = IfOk-weaker result _ _ (λ text is other also. document_of_one text.items other f also is) of_this;
    }
