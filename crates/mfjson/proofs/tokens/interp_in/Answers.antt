use Rattle.mfjson.proofs.TokenLemmas.{interp_answer}
use Rattle.mfjson.proofs.tokens.interp_in.Goals as goal

pub returns : goal.returns
returns c =
    interp_answer c.from_name.result _ c.in_ok-text_at.field-0.now c.args.geometry.now c.from_name.ensures c.in_ok-text_at.ensures
