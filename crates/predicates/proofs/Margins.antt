-- A margin that goes evenly from one whole number to another, and the side on which it is.
use Rattle.std.proofs.Common.{◌≡◌, ℕ, ◌+◌, ◌-◌, ℤ, pos, negsuc, ◌*ℤ◌, ◌-ℤ◌}
use Rattle.std.proofs.Common.{◌+ℤ◌, ◌≤ℤ◌, ◌↔◌, Bool, true, false, unsigned_abs, sym, refl, arith}
use Rattle.std.proofs.Math.Nat.{mul-le-mul_right}
use Rattle.std.proofs.lemmas.Int.{ints}
use Rattle.tpoint.proofs.Fractions.{≤ᶠ_trans, <ᶠ-≤ᶠ, whole_le, above, not_below}
use Rattle.tpoint.proofs.Polynomials.{Poly, int, nat, ◌⊕◌, ◌⊝◌, ◌⊛◌, le_parts, le_from, eq_from}
use Rattle.tpoint.specs.Fraction.{Fraction, ◌≤ᶠ◌, ◌<ᶠ◌, whole}
use Rattle.tpoint.specs.Ways.{way}
use Rattle.tpoint.specs.Extents.{Before}
use Rattle.predicates.specs.Windows.{InLeg, IsInner}
use Rattle.tpoint.proofs.Periods.{at_or_before, strictly_before}

-- ---- a margin stays between those at its two ends
at_least : (m from to : ℤ) (k r : ℕ) → m ≤ℤ from → m ≤ℤ to → (m *ℤ pos (k + r)) ≤ℤ ((from *ℤ pos (k + r) +ℤ (to -ℤ from) *ℤ pos k) *ℤ pos 1)
at_least m from to k r h g =
    let M = int m in
    let X = int from in
    let Y = int to in
    le_from (M ⊛ nat (k + r)) ((X ⊛ nat (k + r) ⊕ (Y ⊝ X) ⊛ nat k) ⊛ nat 1)
    (omega (arith, mul-le-mul_right r (le_parts M X h), mul-le-mul_right k (le_parts M Y g)))

at_most : (m from to : ℤ) (k r : ℕ) → from ≤ℤ m → to ≤ℤ m → ((from *ℤ pos (k + r) +ℤ (to -ℤ from) *ℤ pos k) *ℤ pos 1) ≤ℤ (m *ℤ pos (k + r))
at_most m from to k r h g =
    let M = int m in
    let X = int from in
    let Y = int to in
    le_from ((X ⊛ nat (k + r) ⊕ (Y ⊝ X) ⊛ nat k) ⊛ nat 1) (M ⊛ nat (k + r))
    (omega (arith, mul-le-mul_right r (le_parts X M h), mul-le-mul_right k (le_parts Y M g)))

-- the same at a parameter n / d from 0 to 1
at_least_of : (m from to n : ℤ) (d k r : ℕ) → n ≡ pos k → d ≡ k + r → m ≤ℤ from → m ≤ℤ to →
    (m *ℤ pos d) ≤ℤ ((from *ℤ pos d +ℤ (to -ℤ from) *ℤ n) *ℤ pos 1)
at_least_of m from to n d k r e f h g = rw (e, f) (at_least m from to k r h g)

at_most_of : (m from to n : ℤ) (d k r : ℕ) → n ≡ pos k → d ≡ k + r → from ≤ℤ m → to ≤ℤ m →
    ((from *ℤ pos d +ℤ (to -ℤ from) *ℤ n) *ℤ pos 1) ≤ℤ (m *ℤ pos d)
at_most_of m from to n d k r e f h g = rw (e, f) (at_most m from to k r h g)

pub way_at_least : (m from to : ℤ) (u : Fraction) → InLeg u → m ≤ℤ from → m ≤ℤ to → whole m ≤ᶠ way from to u
way_at_least m from to u in_leg h g =
    let k = unsigned_abs u.num in
    let e : u.num ≡ pos k = omega (arith, ints, in_leg.from.cross) in
    let f : u.den ≡ k + (u.den - k) = omega (arith, ints, in_leg.from.cross, in_leg.to.cross) in
    record { cross = at_least_of m from to u.num u.den k (u.den - k) e f h g }

pub way_at_most : (m from to : ℤ) (u : Fraction) → InLeg u → from ≤ℤ m → to ≤ℤ m → way from to u ≤ᶠ whole m
way_at_most m from to u in_leg h g =
    let k = unsigned_abs u.num in
    let e : u.num ≡ pos k = omega (arith, ints, in_leg.from.cross) in
    let f : u.den ≡ k + (u.den - k) = omega (arith, ints, in_leg.from.cross, in_leg.to.cross) in
    record { cross = at_most_of m from to u.num u.den k (u.den - k) e f h g }

-- ---- both ends on the inner side, or both on the outer
pub inner_all_along : (counts : Bool) (from to : ℤ) (u : Fraction) → InLeg u → IsInner counts (whole from) → IsInner counts (whole to) →
    IsInner counts (way from to u)
inner_all_along true from to u in_leg h g =
    at_or_before (way_at_least (pos 0) from to u in_leg ((whole_le (pos 0) from).1 h.not_after) ((whole_le (pos 0) to).1 g.not_after))
inner_all_along false from to u in_leg h g =
    let zero_one : whole (pos 0) <ᶠ whole (pos 1) = record { cross = omega (arith, ints) } in
    let p : pos 1 ≤ℤ from = omega (arith, ints, (h.apart refl).cross) in
    let q : pos 1 ≤ℤ to = omega (arith, ints, (g.apart refl).cross) in
    strictly_before false (<ᶠ-≤ᶠ zero_one (way_at_least (pos 1) from to u in_leg p q))

pub outer_all_along : (counts : Bool) (from to : ℤ) (u : Fraction) → InLeg u → ¬ IsInner counts (whole from) → ¬ IsInner counts (whole to) →
    ¬ IsInner counts (way from to u)
outer_all_along true from to u in_leg n m i =
    let p = above (whole (pos 0)) (whole from) (λ h. n (at_or_before h)) in
    let q = above (whole (pos 0)) (whole to) (λ h. m (at_or_before h)) in
    let at_most = way_at_most (negsuc 0) from to u in_leg (omega (arith, ints, p.cross)) (omega (arith, ints, q.cross)) in
    let below : whole (pos 0) ≤ᶠ whole (negsuc 0) = ≤ᶠ_trans i.not_after at_most in
    omega (arith, ints, below.cross)
outer_all_along false from to u in_leg n m i =
    let p = not_below (whole (pos 0)) (whole from) (λ h. n (strictly_before false h)) in
    let q = not_below (whole (pos 0)) (whole to) (λ h. m (strictly_before false h)) in
    let at_most = way_at_most (pos 0) from to u in_leg (omega (arith, ints, p.cross)) (omega (arith, ints, q.cross)) in
    let below : whole (pos 0) <ᶠ whole (pos 0) = <ᶠ-≤ᶠ (i.apart refl) at_most in
    omega (arith, ints, below.cross)

-- on which side a whole number is
pub inner_number : (counts : Bool) (z : ℤ) → IsInner counts (whole z) → pos 0 ≤ℤ z
inner_number counts z h = (whole_le (pos 0) z).1 h.not_after

pub outer_number : (counts : Bool) (z : ℤ) → ¬ IsInner counts (whole z) → z ≤ℤ pos 0
outer_number true z n =
    let below = above (whole (pos 0)) (whole z) (λ h. n (at_or_before h)) in
    omega (arith, ints, below.cross)
outer_number false z n = (whole_le z (pos 0)).1 (not_below (whole (pos 0)) (whole z) (λ h. n (strictly_before false h)))

-- ---- two fractions are in one order with two others that are as far apart, times the denominators
abbrev pub AsFarApart : Fraction → Fraction → Fraction → Fraction → Type 0
AsFarApart a b c d = b.num *ℤ pos a.den -ℤ a.num *ℤ pos b.den ≡ d.num *ℤ pos c.den -ℤ c.num *ℤ pos d.den

at_most_alike : (a b c d : Fraction) → AsFarApart a b c d → a ≤ᶠ b → c ≤ᶠ d
at_most_alike a b c d e h = record { cross = omega (arith, ints, e, h.cross) }

before_alike : (s : Bool) (a b c d : Fraction) → AsFarApart a b c d → Before s a b → Before s c d
before_alike s a b c d e h =
    record {
      not_after = at_most_alike a b c d e h.not_after;
      apart = λ k. record { cross = omega (arith, ints, e, (h.apart k).cross) };
    }

pub same_at_most : (a b c d : Fraction) → AsFarApart a b c d → (a ≤ᶠ b) ↔ (c ≤ᶠ d)
same_at_most a b c d e = (at_most_alike a b c d e, at_most_alike c d a b (sym e))

pub same_before : (s : Bool) (a b c d : Fraction) → AsFarApart a b c d → Before s a b ↔ Before s c d
same_before s a b c d e = (before_alike s a b c d e, before_alike s c d a b (sym e))

-- a number on its way, times its denominator
abbrev pub on_way : Poly → Poly → Fraction → Poly
on_way from to u = (from ⊛ nat u.den ⊕ (to ⊝ from) ⊛ int u.num) ⊛ nat 1

-- ---- a margin that changes its side is 0 at the parameter b, and on the inner side from there on
pub rises : (s : Bool) (b u : Fraction) (from to : ℤ) → b.num ≡ pos 0 -ℤ from → pos b.den ≡ to -ℤ from →
    Before s b u ↔ IsInner s (way from to u)
rises s b u from to e f =
    let X = int from in
    let Y = int to in
    same_before s b u (whole (pos 0)) (way from to u)
    (rw (e, f) (eq_from (int u.num ⊛ (Y ⊝ X) ⊝ (nat 0 ⊝ X) ⊛ nat u.den) (on_way X Y u ⊝ nat 0 ⊛ nat u.den) (omega arith)))

-- or up to there
pub falls : (s : Bool) (b u : Fraction) (from to : ℤ) → b.num ≡ from → pos b.den ≡ from -ℤ to → Before s u b ↔ IsInner s (way from to u)
falls s b u from to e f =
    let X = int from in
    let Y = int to in
    same_before s u b (whole (pos 0)) (way from to u)
    (rw (e, f) (eq_from (X ⊛ nat u.den ⊝ int u.num ⊛ (X ⊝ Y)) (on_way X Y u ⊝ nat 0 ⊛ nat u.den) (omega arith)))

-- ---- margins of a coordinate on its way: to a lower bound
pub over : (s : Bool) (low from to : ℤ) (u : Fraction) →
    IsInner s (way (from -ℤ low) (to -ℤ low) u) ↔ Before s (whole low) (way from to u)
over s low from to u =
    let X = int from in
    let Y = int to in
    let L = int low in
    same_before s (whole (pos 0)) (way (from -ℤ low) (to -ℤ low) u) (whole low) (way from to u)
    (eq_from (on_way (X ⊝ L) (Y ⊝ L) u ⊝ nat 0 ⊛ nat u.den) (on_way X Y u ⊝ L ⊛ nat u.den) (omega arith))

-- and to an upper one
pub under : (s : Bool) (high from to : ℤ) (u : Fraction) →
    IsInner s (way (high -ℤ from) (high -ℤ to) u) ↔ Before s (way from to u) (whole high)
under s high from to u =
    let X = int from in
    let Y = int to in
    let H = int high in
    same_before s (whole (pos 0)) (way (high -ℤ from) (high -ℤ to) u) (way from to u) (whole high)
    (eq_from (on_way (H ⊝ X) (H ⊝ Y) u ⊝ nat 0 ⊛ nat u.den) (H ⊛ nat u.den ⊝ on_way X Y u) (omega arith))
