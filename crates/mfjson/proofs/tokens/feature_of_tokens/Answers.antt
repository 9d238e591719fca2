use Rattle.mfjson.proofs.Objects.{document_answer}
use Rattle.mfjson.proofs.tokens.feature_of_tokens.Goals as goal

pub returns : goal.returns
returns c =
    document_answer c.feature_in.result c.args.bytes.now c.in-Ok.text.now _ _ c.in-Ok.ensures.cases.0 c.in-Ok.ensures.cases.1
    c.in-Ok-parse.ensures.ok.1 c.in-Ok-parse.ensures.value c.root.ensures.same c.feature_in.ensures
