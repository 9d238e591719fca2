-- The text of a value at an instant is one.
use Rattle.std.proofs.Common.{◌≡◌, ℕ, ◌*◌, ◌≤◌, ◌++◌, codes, List, ℤ, pos, negsuc, ◌*ℤ◌, ◌≤ℤ◌, unsigned_abs, Option, Some, None, refl, sym}
use Rattle.std.proofs.Common.{◌∙◌, ap, arith}
use Rattle.std.proofs.lemmas.Int.{ints}
use Rattle.tpoint.specs.Fraction.{◌≈◌}
use Rattle.tpoint.specs.Moving.{IsPositionOf, Sequence, At, IsValid, moment}
use Rattle.tpoint.specs.Reduced.{fraction, position, Finds}
use Rattle.tpoint.specs.FracText.{frac_text}
use Rattle.tpoint.specs.declared.frac.Frac.{Frac}
use Rattle.tpoint.proofs.Fractions.{scale_eq_back}
use Rattle.tpoint.proofs.Unique.{at_unique}
use Rattle.store.specs.Answers.{SaysValue, value_text}
use Rattle.store.proofs.LowestTerms.{same_numbers}

-- ---- a fraction has one text
-- equal fractions are equal without their signs
without_signs : (x y : ℤ) (a b : ℕ) → 1 ≤ a → 1 ≤ b → x *ℤ pos b ≡ y *ℤ pos a → unsigned_abs x * b ≡ unsigned_abs y * a
without_signs (pos m) (pos n) a b h k e = omega (arith, ints, e)
without_signs (pos m) (negsuc n) a b h k e = absurd (omega (arith, ints, e))
without_signs (negsuc m) (pos n) a b h k e = absurd (omega (arith, ints, e))
without_signs (negsuc m) (negsuc n) a b h k e = omega (arith, ints, e)

of_size : (z : ℤ) → pos 1 ≤ℤ z → pos (unsigned_abs z) ≡ z
of_size z h = omega (arith, ints)

pub one_text : (f g : Frac) → fraction f ≈ fraction g → frac_text f ≡ frac_text g
one_text f g e =
    let a = (fraction f).at_least_one in
    let b = (fraction g).at_least_one in
    let same = same_numbers (unsigned_abs f.num) (unsigned_abs f.den) (unsigned_abs g.num) (unsigned_abs g.den) b f.lowest g.lowest
    (without_signs f.num g.num (unsigned_abs f.den) (unsigned_abs g.den) a b e.cross) in
    let den : f.den ≡ g.den = sym (of_size f.den f.positive) ∙ ap pos same.1 ∙ of_size g.den g.positive in
    let cross : f.num *ℤ pos (unsigned_abs g.den) ≡ g.num *ℤ pos (unsigned_abs g.den) =
    e.cross ∙ ap (λ (n : ℕ). g.num *ℤ pos n) same.1 in
    let num : f.num ≡ g.num = scale_eq_back f.num g.num (unsigned_abs g.den) b cross in
    rw (num, den) refl

-- ---- a position has one text for each coordinate
pub one_pair : (v w : Frac × Frac) → IsPositionOf (position v) (position w) →
    (frac_text v.0 ≡ frac_text w.0) × (frac_text v.1 ≡ frac_text w.1)
one_pair v w e = (one_text v.0 w.0 e.same_x, one_text v.1 w.1 e.same_y)

same_value : (v w : Frac × Frac) → (frac_text v.0 ≡ frac_text w.0) × (frac_text v.1 ≡ frac_text w.1) →
    value_text (Some v) ≡ value_text (Some w)
same_value v w e = ap (λ (t : List ℕ). t ++ codes " " ++ frac_text v.1) e.0 ∙ ap (λ (t : List ℕ). frac_text w.0 ++ codes " " ++ t) e.1

found_one : (s : Sequence) → IsValid s → (t : ℕ) (v w : Option (Frac × Frac)) → Finds (At s (moment t)) v → Finds (At s (moment t)) w
    → value_text v ≡ value_text w
found_one s valid t None None h k = refl
found_one s valid t None (Some w) h k = absurd (h (position w) k)
found_one s valid t (Some v) None h k = absurd (k (position v) h)
found_one s valid t (Some v) (Some w) h k =
    same_value v w (one_pair v w (at_unique s valid (moment t) (position v) (position w) h k))

pub value_one : (s : Sequence) → IsValid s → (t : ℕ) (a b : List ℕ) → SaysValue s t a → SaysValue s t b → a ≡ b
value_one s valid t a b h k =
    h.spelling ∙ ap (λ (l : List ℕ). codes "at " ++ l) (found_one s valid t h.value k.value h.found k.found) ∙ sym k.spelling
