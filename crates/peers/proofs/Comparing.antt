-- Lists that are compared byte by byte.
use Rattle.std.proofs.Common.{◌≡◌, ℕ, ◌+◌, ◌<◌, ◌≤◌, Bool, true, false, eqb, List, length, take, get_or, refl, sym, ap, ◌∙◌, arith}
use Rattle.std.specs.Prelude.{◌&&◌, ◌↔◌, IsTrue, MatchBool}
use Rattle.std.proofs.lemmas.Bool.Decides.{nat_tests}
use Rattle.std.proofs.lemmas.List.{take_all, take_more_same}

-- the first i bytes are equal, or the lists are not
abbrev pub AreEqualTo : ℕ → Bool → List ℕ → List ℕ → Type 0
AreEqualTo i same xs ys = MatchBool same (take i xs ≡ take i ys) (¬ (xs ≡ ys))

equal_numbers : (n m : ℕ) → eqb n m ≡ true → n ≡ m
equal_numbers n m e = grind (arith, nat_tests)

unequal_numbers : (n m : ℕ) → eqb n m ≡ false → ¬ (n ≡ m)
unequal_numbers n m e same = grind (arith, nat_tests)

next_byte : (b : Bool) (xs ys : List ℕ) (i : ℕ) → i < length xs → i < length ys → take i xs ≡ take i ys
    → eqb (get_or xs i 0) (get_or ys i 0) ≡ b → AreEqualTo (i + 1) b xs ys
next_byte true xs ys i in_xs in_ys same e = take_more_same xs ys i 0 in_xs in_ys same (equal_numbers _ _ e)
next_byte false xs ys i in_xs in_ys same e = λ equal. unequal_numbers _ _ e (ap (λ (zs : List ℕ). get_or zs i 0) equal)

-- one byte more
pub more_equal : (same : Bool) (xs ys : List ℕ) (i : ℕ) → i < length xs → i < length ys → AreEqualTo i same xs ys
    → AreEqualTo (i + 1) (same && eqb (get_or xs i 0) (get_or ys i 0)) xs ys
more_equal true xs ys i in_xs in_ys h = next_byte (eqb (get_or xs i 0) (get_or ys i 0)) xs ys i in_xs in_ys h refl
more_equal false xs ys i in_xs in_ys h = h

-- all bytes
pub all_equal : (same : Bool) (xs ys : List ℕ) (i : ℕ) → length xs ≤ i → length ys ≤ i → AreEqualTo i same xs ys
    → IsTrue same ↔ (xs ≡ ys)
all_equal true xs ys i in_xs in_ys h = (λ _. sym (take_all i xs in_xs) ∙ h ∙ take_all i ys in_ys, λ _. refl)
all_equal false xs ys i in_xs in_ys h = (λ no. absurd cc, λ equal. absurd (h equal))
