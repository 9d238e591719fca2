-- A fraction has one form in lowest terms.
use Rattle.std.proofs.Common.{◌≡◌, ℕ, zero, suc, ◌+◌, ◌-◌, ◌*◌, ◌≤◌, inl, inr, sym, ◌∙◌, ap, subst, arith}
use Prim.Native.Nat.{◌∣◌}
use Rattle.std.proofs.lemmas.Bool.{cases_lt}
use Rattle.std.proofs.lemmas.Nat.Gcd.{dvd_refl, dvd-zero}
use Rattle.std.proofs.Math.Nat.{dvd-add, dvd-mul_left, le_of_mul-le-mul_left}
use Rattle.tpoint.specs.Lowest.{IsInLowestTerms}

-- one number times b is d, and times a it is k
record IsShared (a b d k : ℕ) : Type 0 where
  by : ℕ
  lower : d ≡ b * by
  upper : k ≡ a * by

swapped : (a b : ℕ) → IsInLowestTerms a b → IsInLowestTerms b a
swapped a b low = record { lowest = λ x p q. low.lowest x q p }

less : (e b : ℕ) → IsInLowestTerms (e + b) b → IsInLowestTerms e b
less e b low = record { lowest = λ x p q. low.lowest x (dvd-add x p q) q }

-- the greater of two numbers is at most 1 where the other is 0
of_zero : (b : ℕ) → IsInLowestTerms 0 b → b ≤ 1
of_zero b low = low.lowest b (dvd-zero b) (dvd_refl b)

not_both_zero : IsInLowestTerms 0 0 → ⊥
not_both_zero low = let h = low.lowest 2 (dvd-zero 2) (dvd-zero 2) in absurd (omega arith)

at_zero : (b d k : ℕ) → IsInLowestTerms 0 b → 0 * d ≡ b * k → IsShared 0 b d k
at_zero zero d k low e = absurd (not_both_zero low)
at_zero (suc zero) d k low e = record { by = d; lower = omega arith; upper = omega arith }
at_zero (suc (suc b)) d k low e = absurd (let h = of_zero (suc (suc b)) low in omega arith)

-- (e + b) d = b k makes k at least d
rest : (e b d k : ℕ) → 1 ≤ b → (e + b) * d ≡ b * k → d ≤ k
rest e b d k h f = le_of_mul-le-mul_left {m = d} {n = k} {k = b} (omega (arith, f)) (omega arith)

taken : (e b d j : ℕ) → (e + b) * d ≡ b * (d + j) → e * d ≡ b * j
taken e b d j f = omega (arith, f)

added : (e b d j : ℕ) → IsShared e b d j → IsShared (e + b) b d (d + j)
added e b d j s =
    let lower = s.lower in
    let upper = s.upper in
    record { by = s.by; lower = lower; upper = omega (arith, lower, upper) }

turned : (a b d k : ℕ) → IsShared b a k d → IsShared a b d k
turned a b d k s = record { by = s.by; lower = s.upper; upper = s.lower }

-- from a - b to a, where b is not greater
stepped : (a b d k : ℕ) → 1 ≤ b → b ≤ a → IsInLowestTerms a b → a * d ≡ b * k →
    (IsInLowestTerms (a - b) b → (a - b) * d ≡ b * (k - d) → IsShared (a - b) b d (k - d)) → IsShared a b d k
stepped a b d k h above low e smaller =
    let whole : a - b + b ≡ a = omega arith in
    let f : (a - b + b) * d ≡ b * k = ap (λ (m : ℕ). m * d) whole ∙ e in
    let least : d ≤ k = rest (a - b) b d k h f in
    let all : d + (k - d) ≡ k = omega arith in
    let g : (a - b + b) * d ≡ b * (d + (k - d)) = f ∙ ap (λ (m : ℕ). b * m) (sym all) in
    let low' : IsInLowestTerms (a - b) b = less (a - b) b (subst (λ (m : ℕ). IsInLowestTerms m b) (sym whole) low) in
    let s = added (a - b) b d (k - d) (smaller low' (taken (a - b) b d (k - d) g)) in
    subst (λ (m : ℕ). IsShared m b d k) whole (subst (λ (m : ℕ). IsShared (a - b + b) b d m) all s)

-- where a d = b k, and nothing but 1 divides both a and b
shared : (n a b d k : ℕ) → a + b ≤ n → IsInLowestTerms a b → a * d ≡ b * k → IsShared a b d k
shared zero a b d k few low e =
    let za : a ≡ 0 = omega arith in
    let zb : b ≡ 0 = omega arith in
    absurd (not_both_zero (subst (λ (m : ℕ). IsInLowestTerms 0 m) zb (subst (λ (m : ℕ). IsInLowestTerms m b) za low)))
shared (suc n) a b d k few low e =
    elim (cases_lt 0 a) [
      | inr none ↦
          let za : 0 ≡ a = omega arith in
          subst (λ (m : ℕ). IsInLowestTerms m b → m * d ≡ b * k → IsShared m b d k) za (at_zero b d k) low e
      | inl some ↦
          elim (cases_lt 0 b) [
            | inr none ↦
                let zb : 0 ≡ b = omega arith in
                turned a b d k (subst (λ (m : ℕ). IsInLowestTerms m a → m * k ≡ a * d → IsShared m a k d) zb (at_zero a k d)
                (swapped a b low) (sym e))
            | inl more ↦
                elim (cases_lt a b) [
                  | inl below ↦
                      turned a b d k (stepped b a k d some (omega arith) (swapped a b low) (sym e)
                      (λ l f. shared n (b - a) a k (d - k) (omega arith) l f))
                  | inr above ↦
                      stepped a b d k more above low e
                      (λ l f. shared n (a - b) b d (k - d) (omega arith) l f)
                ]
          ]
    ]

-- equal fractions in lowest terms have equal numbers
same_numbers_by : (a b c d by : ℕ) → 1 ≤ d → IsInLowestTerms c d → d ≡ b * by → c ≡ a * by → (a ≡ c) × (b ≡ d)
same_numbers_by a b c d by h low e f =
    let in_c : by ∣ c = subst (λ (m : ℕ). by ∣ m) (sym f) (dvd-mul_left by a) in
    let in_d : by ∣ d = subst (λ (m : ℕ). by ∣ m) (sym e) (dvd-mul_left by b) in
    let most = low.lowest by in_c in_d in
    let one : by ≡ 1 =
    elim (cases_lt 0 by) [
      | inl some ↦ omega arith
      | inr none ↦ let z : by ≡ 0 = omega arith in absurd (omega (arith, e, ap (λ (m : ℕ). b * m) z))
    ] in
    let f' : c ≡ a * 1 = f ∙ ap (λ (m : ℕ). a * m) one in
    let e' : d ≡ b * 1 = e ∙ ap (λ (m : ℕ). b * m) one in
    (omega (arith, f'), omega (arith, e'))

pub same_numbers : (a b c d : ℕ) → 1 ≤ d → IsInLowestTerms a b → IsInLowestTerms c d → a * d ≡ c * b → (a ≡ c) × (b ≡ d)
same_numbers a b c d h low_ab low_cd e =
    let s = shared (a + b) a b d c (omega arith) low_ab (omega (arith, e)) in
    same_numbers_by a b c d s.by h low_cd s.lower s.upper
