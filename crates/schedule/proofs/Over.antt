-- Where a text is left, a line is.
use Rattle.std.proofs.Common.{◌≡◌, ◌≢◌, ℕ, ◌+◌, ◌==◌, List, [], ◌∷◌, length, Some, refl, arith}
use Rattle.std.proofs.lemmas.List.Splits.{length-slice_split}
use Rattle.schedule.specs.Lines.{pieces, numbered, line_feed}

numbered_none : (number : ℕ) (texts : List (List ℕ)) → numbered number texts ≡ [] → length texts ≡ 0
numbered_none number [] e = refl
numbered_none number (text ∷ texts) e = cc

pub some_line : (number : ℕ) (text : List ℕ) → numbered number (pieces line_feed (Some text)) ≢ []
some_line number text e =
    omega (arith, length-slice_split (λ b. b == line_feed) text, numbered_none number (pieces line_feed (Some text)) e)
