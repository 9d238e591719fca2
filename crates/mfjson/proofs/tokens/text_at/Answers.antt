use Rattle.std.proofs.Common.{Bor, List, ℕ}
use Rattle.mfjson.specs.Tokens.{IsText}
use Rattle.mfjson.proofs.TokenLemmas.{member_answer}
use Rattle.mfjson.proofs.tokens.text_at.Goals as goal

pub returns : goal.returns
returns c =
    member_answer 0 IsText c.args.name.now c.args.value.now _ c.text_in.result (λ (text : Bor (List ℕ)). text.now) c.in_ok-get.ensures
    c.text_in.ensures
