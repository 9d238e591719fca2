use Rattle.mfjson.proofs.TokenLemmas.{instant_answer}
use Rattle.mfjson.proofs.tokens.instant_in.Goals as goal

pub returns-clause-value : goal.returns-clause-value
returns-clause-value c =
    instant_answer c.datetime_read.result c.as_bytes.result.now c.in_ok-text_in.field-0.now c.args.value.now c.as_bytes.ensures.value
    c.datetime_read.ensures.exact
    c.in_ok-text_in.ensures
