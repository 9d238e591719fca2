-- The lines of a file.
use Rattle.std.specs.Prelude.{ℕ, ◌+◌, Bool, not, ◌==◌, List, [], ◌∷◌, length, filter, Option, Some, None}
use Rattle.std.specs.List.{slice_split}

-- one line: which one it is, counted from 1, and its bytes
pub record NumberedText : Type 0 where
  pub number : ℕ
  pub text : List ℕ

-- the pieces of a text between its marks; no text has no pieces
abbrev pub pieces : ℕ → Option (List ℕ) → List (List ℕ)
pieces mark None = []
pieces mark (Some bytes) = slice_split (λ b. b == mark) bytes

-- texts in a row, numbered from the given number on
abbrev pub numbered : ℕ → List (List ℕ) → List NumberedText
numbered number [] = []
numbered number (text ∷ texts) =
    record { number = number; text = text } ∷ numbered (number + 1) texts

abbrev pub is_filled : NumberedText → Bool
is_filled line = not (length line.text == 0)

abbrev pub line_feed : ℕ
line_feed = 10

-- the lines that are not empty; a line feed ends a line, and the last line may lack it
abbrev pub lines_of : List ℕ → List NumberedText
lines_of bytes = filter is_filled (numbered 1 (pieces line_feed (Some bytes)))
