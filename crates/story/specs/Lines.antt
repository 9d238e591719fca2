-- Texts of lines, and what each line says.
use Rattle.std.specs.Prelude.{◌≡◌, ◌≢◌, ◌==◌, ℕ, ◌-◌, List, [], ◌∷◌, ◌++◌, All, Some, map, slice_index_or, if◌then◌else◌}
use Rattle.schedule.specs.Lines.{line_feed, pieces}

-- ---- the lines of a file
-- their texts, without the line feeds that end them
abbrev pub texts_in : List ℕ → List (List ℕ)
texts_in bytes = pieces line_feed (Some bytes)

-- the text of the line of this number, counted from 1
abbrev pub text_at : List (List ℕ) → ℕ → List ℕ
text_at texts number = slice_index_or texts (number - 1) []

-- ---- lines that are added
-- what a line says: this and no more
pub data Saying : Type 0 where
  whole : List ℕ → Saying

abbrev pub Says : Saying → List ℕ → Type 0
Says (whole said) text = text ≡ said

-- a line feed within a line is shown as a space
abbrev pub shown : ℕ → ℕ
shown b = if b == 10 then 32 else b

abbrev pub in_one_line : List ℕ → List ℕ
in_one_line text = map shown text

-- a line that says so: a line feed ends it, and it has no other
pub record IsLine (said : Saying) (line : List ℕ) : Type 0 where
  pub text : List ℕ
  pub says : Says said text
  pub is : line ≡ in_one_line text ++ 10 ∷ []
  pub no_other : All (λ b. b ≢ 10) (in_one_line text)

-- behind the old text comes a line for each of these sayings, in their order, and nothing else
pub data AddsLines (old : List ℕ) : List Saying → List ℕ → Type 0 where
  none : AddsLines old [] old
  next : (sayings : List Saying) (now : List ℕ) (said : Saying) (line : List ℕ) → AddsLines old sayings now → IsLine said line
      → AddsLines old (sayings ++ said ∷ []) (now ++ line)
