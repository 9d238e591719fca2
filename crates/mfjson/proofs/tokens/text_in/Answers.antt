use Rattle.mfjson.proofs.TokenLemmas.{text_answer}
use Rattle.mfjson.proofs.tokens.text_in.Goals as goal

pub returns : goal.returns
returns c = text_answer c.as_str.result c.args.value.now c.as_str.ensures
