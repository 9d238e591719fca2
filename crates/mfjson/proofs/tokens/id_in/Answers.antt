use Rattle.mfjson.proofs.TokenLemmas.{id_answer}
use Rattle.mfjson.proofs.tokens.id_in.Goals as goal

pub returns : goal.returns
returns c =
    id_answer c.new.result _ c.as_bytes.result.now c.in_ok-text_at.field-0.now c.args.root.now c.as_bytes.ensures.value
    c.new.ensures.valid.0
    c.new.ensures.value c.in_ok-text_at.ensures
