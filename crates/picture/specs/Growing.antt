-- A text that grows at its end, and what stands in it.
use Rattle.std.specs.Prelude.{◌≡◌, ℕ, List, ◌++◌}

-- the old text, and more behind it
pub record Grows (old new : List ℕ) : Type 0 where
  pub more : List ℕ
  pub is : new ≡ old ++ more

-- the part stands somewhere in the text
pub record Has (part text : List ℕ) : Type 0 where
  pub before : List ℕ
  pub behind : List ℕ
  pub is : text ≡ (before ++ part) ++ behind
