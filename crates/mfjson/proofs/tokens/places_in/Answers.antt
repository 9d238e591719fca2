use Rattle.std.proofs.Common.{Global, Vec, ℤ, rules}
use Rattle.mfjson.specs.Faults.{SaysCoordinates}
use Rattle.mfjson.specs.Tokens.{SaysEach}
use Rattle.mfjson.proofs.TokenLemmas.{array_says, member_answer}
use Rattle.mfjson.proofs.tokens.places_in.Goals as goal

pub returns : goal.returns
returns c =
    member_answer 2 (SaysEach SaysCoordinates) _ c.args.geometry.now _ c.each_in.result (λ (v : Vec (ℤ × ℤ) Global). v.items)
    c.in_ok-get.ensures
    (array_says 1 SaysCoordinates _ _ c.each_in.result (λ (v : Vec (ℤ × ℤ) Global). v.items) (λ item x read. search rules)
    c.each_in.ensures)
