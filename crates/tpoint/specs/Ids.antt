-- The texts that are ids, and how a text is kept in place.
use Rattle.std.specs.Prelude.{◌≡◌, ℕ, ◌-◌, ◌≤◌, Bool, ◌||◌, ◌==◌, IsTrue}
use Rattle.std.specs.Prelude.{List, ◌++◌, length, take, replicate, All}
use Rattle.std.proofs.Common.{sym, ◌∙◌, ap, arith}
use Rattle.std.proofs.lemmas.List.{length-take-le}
use Rattle.std.specs.Char.{is_ascii_alphanumeric}
use Rattle.tpoint.specs.declared.id.TheConstants.{LONGEST_ID}

-- an ASCII letter, a digit, or one of `-`, `_` and `.`
abbrev pub is_id_byte : ℕ → Bool
is_id_byte b = is_ascii_alphanumeric b || b == 45 || b == 95 || b == 46

abbrev pub IsIdByte : ℕ → Type 0
IsIdByte b = IsTrue (is_id_byte b)

-- a text that is an id
pub record IsId (text : List ℕ) : Type 0 where
  pub not_empty : 1 ≤ length text
  pub not_too_long : length text ≤ LONGEST_ID
  pub of_id_bytes : All IsIdByte text

-- a text and zeros after it, in the room that the longest takes
abbrev pub with_zeros : List ℕ → List ℕ
with_zeros text = text ++ replicate (LONGEST_ID - length text) 0

-- the bytes are an id of this length, and zeros after it
pub record KeepsId (bytes : List ℕ) (len : ℕ) : Type 0 where
  pub text : IsId (take len bytes)
  pub within : len ≤ LONGEST_ID
  pub room : length bytes ≡ LONGEST_ID
  pub zeros : bytes ≡ take len bytes ++ replicate (LONGEST_ID - len) 0

-- what was kept is told by its text
pub kept_len_back : (bytes : List ℕ) (len : ℕ) → KeepsId bytes len → length (take len bytes) ≡ len
kept_len_back bytes len k = length-take-le len bytes (omega (arith, k.within, k.room))

pub kept_bytes_back : (bytes : List ℕ) (len : ℕ) → KeepsId bytes len →
    with_zeros (take len bytes) ≡ bytes
kept_bytes_back bytes len k =
    let padded : ℕ → List ℕ = λ n. take len bytes ++ replicate (LONGEST_ID - n) 0 in
    ap padded (kept_len_back bytes len k) ∙ sym k.zeros
