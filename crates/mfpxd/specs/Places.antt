-- Which node of which run the words name.
use Rattle.std.specs.Prelude.{◌≡◌, ℕ, ◌<◌, ◌⊎◌, List}
use Rattle.std.specs.Str.Parse.{IsNumeral, digits_value, without_leading_plus}

-- a run has so many nodes
abbrev pub IsCount : ℕ → Type 0
IsCount count = (count ≡ 3) ⊎ (count ≡ 5) ⊎ (count ≡ 7)

-- the number that the text writes, where a plus may stand before its digits
abbrev pub number_in : List ℕ → ℕ
number_in text = digits_value 10 (without_leading_plus text)

-- the text writes a number, and so many nodes have one of this number
abbrev pub NamesNode : List ℕ → ℕ → Type 0
NamesNode text count = IsNumeral 10 (without_leading_plus text) × (number_in text < count)
