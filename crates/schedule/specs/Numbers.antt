-- Numbers as words.
use Rattle.std.specs.Prelude.{◌≡◌, ◌≢◌, ℕ, ◌<◌, ◌≤◌, ℤ, pos, List, length, slice_index}
use Rattle.std.specs.Fmt.{decimal, signed_decimal}
use Rattle.tpoint.specs.Coordinates.{InRange}

-- the word is the decimal text, without leading zeros, of a value from `least` on and below `limit`
pub record WritesNumber (least limit : ℕ) (word : List ℕ) (value : ℕ) : Type 0 where
  pub from : least ≤ value
  pub below : value < limit
  pub text : word ≡ decimal value

-- the word is the decimal text of this number, which is not negative and below the limit
pub record IsSize (limit : ℕ) (word : List ℕ) (size : ℤ) : Type 0 where
  pub value : ℕ
  pub is : size ≡ pos value
  pub writes : WritesNumber 0 limit word value

-- the word is the decimal text of a coordinate in range; a minus sign stands before one below zero
pub record IsCoordinate (word : List ℕ) (value : ℤ) : Type 0 where
  pub in_range : InRange value
  pub text : word ≡ signed_decimal value

-- the word is not empty and begins neither with a plus nor with a needless zero
pub record IsPlain (word : List ℕ) : Type 0 where
  pub not_empty : 0 < length word
  pub no_plus : slice_index word 0 ≢ 43
  pub zero_alone : slice_index word 0 ≡ 48 → length word ≡ 1
