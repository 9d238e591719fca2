-- How a text stands in a picture: bytes that mean something there by their number.
use Rattle.std.specs.Prelude.{◌≡◌, ◌≢◌, ℕ, ◌+◌, ◌/◌, ◌%◌, ◌<◌, ◌≤◌, List, [], ◌∷◌, ◌++◌, Bool, true, false, nat_lt, nat_le, not, ◌&&◌, ◌==◌, flat_map, if◌then◌else◌, codes}

-- printable, and neither `<`, `>`, `&` nor a quotation mark
abbrev pub is_plain : ℕ → Bool
is_plain b = nat_le 32 b && nat_lt b 127 && not (b == 60) && not (b == 62) && not (b == 38) && not (b == 34) && not (b == 39)

-- a hexadecimal digit
abbrev pub digit : ℕ → ℕ
digit d = if nat_lt d 10 then 48 + d else 87 + d

-- a byte by its number: control bytes have pictures from 2400 (hexadecimal) on, and others are the characters of their number
abbrev pub reference : ℕ → List ℕ
reference b = codes "&#x" ++ (if nat_lt b 32 then 50 else 48) ∷ (if nat_lt b 32 then 52 else 48)
    ∷ digit (b / 16) ∷ digit (b % 16) ∷ codes ";"

abbrev pub spelled_as : Bool → ℕ → List ℕ
spelled_as true b = b ∷ []
spelled_as false b = reference b

abbrev pub escape : ℕ → List ℕ
escape b = spelled_as (is_plain b) b

abbrev pub escaped : List ℕ → List ℕ
escaped text = flat_map escape text

-- a byte that ends no text, attribute or element, and is no control byte
pub record IsHarmless (b : ℕ) : Type 0 where
  pub printable : 32 ≤ b
  pub ascii : b < 127
  pub no_end : b ≢ 60
  pub no_begin : b ≢ 62
  pub no_quote : b ≢ 34
  pub no_apostrophe : b ≢ 39
