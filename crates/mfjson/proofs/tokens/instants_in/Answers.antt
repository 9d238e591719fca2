use Rattle.std.proofs.Common.{Global, Vec, ℕ}
use Rattle.mfjson.specs.Document.{SaysInstant}
use Rattle.mfjson.specs.Tokens.{SaysEach}
use Rattle.mfjson.proofs.TokenLemmas.{array_says, member_answer}
use Rattle.mfjson.proofs.tokens.instants_in.Goals as goal

pub returns : goal.returns
returns c =
    member_answer 1 (SaysEach SaysInstant) _ c.args.geometry.now _ c.each_instant_in.result (λ (v : Vec ℕ Global). v.items)
    c.in_ok-get.ensures
    (array_says 0 SaysInstant _ _ c.each_instant_in.result (λ (v : Vec ℕ Global). v.items) (λ item x read. read) c.each_instant_in.ensures)
