-- What is escaped can be read back, and breaks out of nothing.
use Rattle.std.proofs.Common.{◌≡◌, ◌≢◌, ℕ, ◌+◌, ◌/◌, ◌%◌, ◌<◌, ◌≤◌, List, [], ◌∷◌, ◌++◌, Bool, true, false, All, refl, sym, ap, ◌∙◌, subst, arith}
use Rattle.std.proofs.lemmas.Bool.Decides.{nat_tests}
use Rattle.std.proofs.lemmas.List.Elements.{All-nil, All-cons, All-head, All-tail, All-append}
use Rattle.picture.specs.Escaped.{IsHarmless, digit, escape, escaped, is_plain, reference, spelled_as}

-- ---- digits

digit_is_one : (c d : ℕ) → c < 16 → d < 16 → digit c ≡ digit d → c ≡ d
digit_is_one c d p q e = grind (arith, nat_tests)

digit_is_low : (d : ℕ) → d < 16 → 48 ≤ digit d × digit d < 103 × digit d ≢ 60 × digit d ≢ 62
digit_is_low d p = grind (arith, nat_tests)

-- ---- one byte

abbrev Same : ℕ → ℕ → List ℕ → List ℕ → Type 0
Same a b s t = (a ≡ b) × (s ≡ t)

-- the number of a byte by its two digits
same_number : (a b : ℕ) → a < 256 → b < 256 → digit (a / 16) ≡ digit (b / 16) → digit (a % 16) ≡ digit (b % 16) → a ≡ b
same_number a b p q high low =
    let e : a / 16 ≡ b / 16 = digit_is_one (a / 16) (b / 16) (omega arith) (omega arith) high in
    let f : a % 16 ≡ b % 16 = digit_is_one (a % 16) (b % 16) (omega arith) (omega arith) low in
    omega arith

-- the byte that begins a number isn't plain
no_begin : (a : ℕ) → is_plain a ≡ true → a ≡ 38 → ⊥
no_begin a plain e = let h : is_plain 38 ≡ true = subst (λ (x : ℕ). is_plain x ≡ true) e plain in cc

same_by : (p q : Bool) (a b : ℕ) (s t : List ℕ) → a < 256 → b < 256 → is_plain a ≡ p → is_plain b ≡ q
    → spelled_as p a ++ s ≡ spelled_as q b ++ t → Same a b s t
same_by true true a b s t small small' is is' e = (cc, cc)
same_by true false a b s t small small' is is' e = absurd (no_begin a is (cc))
same_by false true a b s t small small' is is' e = absurd (no_begin b is' (cc))
same_by false false a b s t small small' is is' e = (same_number a b small small' (cc) (cc), (cc))

same : (a b : ℕ) (s t : List ℕ) → a < 256 → b < 256 → escape a ++ s ≡ escape b ++ t → Same a b s t
same a b s t small small' e = same_by (is_plain a) (is_plain b) a b s t small small' refl refl e

not_nothing : (p : Bool) (a : ℕ) (s : List ℕ) → spelled_as p a ++ s ≡ [] → ⊥
not_nothing true a s e = cc
not_nothing false a s e = cc

-- ---- texts

abbrev IsByte : ℕ → Type 0
IsByte x = x < 256

pub one_text : (a b : List ℕ) → All (λ x. x < 256) a → All (λ x. x < 256) b → escaped a ≡ escaped b → a ≡ b
one_text [] [] p q e = refl
one_text [] (y ∷ ys) p q e = absurd (not_nothing (is_plain y) y (escaped ys) (sym e))
one_text (x ∷ xs) [] p q e = absurd (not_nothing (is_plain x) x (escaped xs) e)
one_text (x ∷ xs) (y ∷ ys) p q e =
    let first : Same x y (escaped xs) (escaped ys) =
    same x y (escaped xs) (escaped ys) (All-head IsByte x xs p) (All-head IsByte y ys q) e in
    let rest : xs ≡ ys = one_text xs ys (All-tail IsByte x xs p) (All-tail IsByte y ys q) first.1 in
    let begin : x ≡ y = first.0 in
    cc

-- ---- no harm

plain_is_harmless : (b : ℕ) → is_plain b ≡ true → IsHarmless b
plain_is_harmless b h = record {
  printable = grind (arith, nat_tests);
  ascii = grind (arith, nat_tests);
  no_end = grind (arith, nat_tests);
  no_begin = grind (arith, nat_tests);
  no_quote = grind (arith, nat_tests);
  no_apostrophe = grind (arith, nat_tests);
}

-- numbers from 48 to 102 but `<` and `>`
high_is_harmless : (b : ℕ) → 48 ≤ b → b < 103 → b ≢ 60 → b ≢ 62 → IsHarmless b
high_is_harmless b low high no_end no_begin = record {
  printable = omega arith;
  ascii = omega arith;
  no_end = no_end;
  no_begin = no_begin;
  no_quote = omega arith;
  no_apostrophe = omega arith;
}

digit_is_harmless : (d : ℕ) → d < 16 → IsHarmless (digit d)
digit_is_harmless d p = let h = digit_is_low d p in high_is_harmless (digit d) h.0 h.1 h.2 h.3

low_is_harmless : (b : ℕ) → 34 < b → b < 39 → IsHarmless b
low_is_harmless b low high = record {
  printable = omega arith;
  ascii = omega arith;
  no_end = omega arith;
  no_begin = omega arith;
  no_quote = omega arith;
  no_apostrophe = omega arith;
}

list_of_eight : (P : ℕ → Type 0) (a b c d e f g h : ℕ) → P a → P b → P c → P d → P e → P f → P g → P h
    → All P (a ∷ b ∷ c ∷ d ∷ e ∷ f ∷ g ∷ h ∷ [])
list_of_eight P a b c d e f g h pa pb pc pd pe pf pg ph =
    All-cons P a (b ∷ c ∷ d ∷ e ∷ f ∷ g ∷ h ∷ []) pa (All-cons P b (c ∷ d ∷ e ∷ f ∷ g ∷ h ∷ []) pb (
    All-cons P c (d ∷ e ∷ f ∷ g ∷ h ∷ []) pc (All-cons P d (e ∷ f ∷ g ∷ h ∷ []) pd (
    All-cons P e (f ∷ g ∷ h ∷ []) pe (All-cons P f (g ∷ h ∷ []) pf (
    All-cons P g (h ∷ []) pg (All-cons P h [] ph (All-nil P))))))))

reference_is_harmless : (b : ℕ) → b < 256 → All IsHarmless (reference b)
reference_is_harmless b small =
    list_of_eight IsHarmless _ _ _ _ _ _ _ _ (low_is_harmless 38 (omega arith) (omega arith))
    (low_is_harmless 35 (omega arith) (omega arith)) (plain_is_harmless 120 refl)
    (high_is_harmless _ (grind (arith, nat_tests)) (grind (arith, nat_tests)) (grind (arith, nat_tests)) (grind (arith, nat_tests)))
    (high_is_harmless _ (grind (arith, nat_tests)) (grind (arith, nat_tests)) (grind (arith, nat_tests)) (grind (arith, nat_tests)))
    (digit_is_harmless (b / 16) (omega arith)) (digit_is_harmless (b % 16) (omega arith)) (plain_is_harmless 59 refl)

harmless_by : (p : Bool) (b : ℕ) → b < 256 → is_plain b ≡ p → All IsHarmless (spelled_as p b)
harmless_by true b small is = All-cons IsHarmless b [] (plain_is_harmless b is) (All-nil IsHarmless)
harmless_by false b small is = reference_is_harmless b small

pub all_harmless : (text : List ℕ) → All (λ x. x < 256) text → All IsHarmless (escaped text)
all_harmless [] p = All-nil IsHarmless
all_harmless (x ∷ xs) p =
    All-append IsHarmless (escape x) (escaped xs) (harmless_by (is_plain x) x (All-head IsByte x xs p) refl)
    (all_harmless xs (All-tail IsByte x xs p))
