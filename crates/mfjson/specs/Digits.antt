-- Numbers in a fixed count of decimal digits.
use Rattle.std.specs.List.{slice_range}
use Rattle.std.specs.Prelude.{◌≡◌, ℕ, zero, suc, ◌+◌, ◌/◌, ◌%◌, ◌^◌, ◌<◌, List, [], ◌∷◌, ◌++◌, length, get_or}

-- the last `count` decimal digits of n
abbrev pub digits : ℕ → ℕ → List ℕ
digits zero n = []
digits (suc count) n = digits count (n / 10) ++ (48 + n % 10) ∷ []

-- the text has the digits of n, with zeros in front, and n is no longer than the text
pub record IsNumber (text : List ℕ) (n : ℕ) : Type 0 where
  pub fits : n < 10 ^ length text
  pub spelling : text ≡ digits (length text) n

-- the first text is a number, and the rest is two numbers of two digits, each behind the mark
pub record AreNumbers (mark : ℕ) (text rest : List ℕ) (a b c : ℕ) : Type 0 where
  pub first : IsNumber text a
  pub second_mark : get_or rest 0 0 ≡ mark
  pub second : IsNumber (slice_range rest 1 3) b
  pub third_mark : get_or rest 3 0 ≡ mark
  pub third : IsNumber (slice_range rest 4 6) c
