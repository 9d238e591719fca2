use Rattle.serde_json.specs.View.{view}
use Rattle.mfjson.proofs.NeverBroken.{document_answered}
use Rattle.mfjson.proofs.reader.read_tree.Goals as goal

pub returns-clause-document : goal.returns-clause-document
returns-clause-document c f is =
    document_answered c.args.bytes.now (view c.in_ok-value.value) f c.feature_of.result c.in_ok-value.ensures.ok is c.feature_of.ensures.ok
    c.feature_of.ensures.err
