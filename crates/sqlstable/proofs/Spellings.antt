-- How keys are spelled, by the table of keys.
use Rattle.std.proofs.Common.{◌≡◌, ◌≢◌, ℕ, ◌<◌, ◌≤◌, true, List, [], ◌∷◌, length, Option, Some, None, MatchOption, slice_index_or, refl, sym, ap, arith}
use Rattle.std.proofs.lemmas.Option.{none-some}
use Rattle.stable.specs.Records.{letter, slot_in}
use Rattle.stable.specs.declared.key.Key.{Key}
use Rattle.stable.specs.declared.key.Key.TheVariants.{Checkpoint, Promise, Round, Vote}
use Rattle.sqlstable.specs.Keys.{spelled, is_valid}

-- one byte spells a fixed key
one_spelled : (byte : ℕ) (key : Key) → slot_in key ≡ None → letter key ≡ byte → (is_valid key ≡ true) × (spelled key ≡ byte ∷ [])
one_spelled byte Checkpoint fixed is = (refl, ap (λ n. n ∷ []) is)
one_spelled byte Promise fixed is = (refl, ap (λ n. n ∷ []) is)
one_spelled byte Round fixed is = (refl, ap (λ n. n ∷ []) is)
one_spelled byte (Vote s) fixed is = absurd (none-some s (sym fixed))

-- or none
none_spelled : (byte : ℕ) → ((key : Key) → slot_in key ≡ None → letter key ≢ byte) → (key : Key) → is_valid key ≡ true
    → spelled key ≢ byte ∷ []
none_spelled byte none Checkpoint valid e = none Checkpoint refl (ap (λ (l : List ℕ). slice_index_or l 0 0) e)
none_spelled byte none Promise valid e = none Promise refl (ap (λ (l : List ℕ). slice_index_or l 0 0) e)
none_spelled byte none Round valid e = none Round refl (ap (λ (l : List ℕ). slice_index_or l 0 0) e)
none_spelled byte none (Vote s) valid e = let long : 5 ≡ 1 = ap length e in absurd (omega (arith, long))

-- what was found by the byte of a text of one
pub found_spelled : (bytes : List ℕ) (d : ℕ) (o : Option Key) → 1 ≤ length bytes → length bytes < 2
    → MatchOption o ((key : Key) → slot_in key ≡ None → letter key ≢ slice_index_or bytes 0 d)
    (λ key. (slot_in key ≡ None) × (letter key ≡ slice_index_or bytes 0 d))
    → MatchOption o ((key : Key) → is_valid key ≡ true → spelled key ≢ bytes) (λ key. (is_valid key ≡ true) × (spelled key ≡ bytes))
found_spelled [] d o least most h = absurd (omega (arith, least))
found_spelled (b ∷ []) d None least most h = none_spelled b h
found_spelled (b ∷ []) d (Some key) least most h = one_spelled b key h.0 h.1
found_spelled (b ∷ c ∷ more) d o least most h = absurd (omega (arith, most))
