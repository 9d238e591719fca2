-- Ends of windows: their order, and when something lies between two of them.
use Rattle.std.proofs.Common.{◌+◌, ◌&&◌, not, ◌+ℤ◌, Bool, true, false, refl, arith}
use Rattle.tpoint.proofs.Polynomials.{int, nat, ◌⊕◌, ◌⊛◌, lt_parts, lt_from}
use Rattle.tpoint.proofs.Fractions.{≤ᶠ_trans, ≤ᶠ-<ᶠ, <ᶠ-≤ᶠ, ≤ᶠ_refl, above, not_below}
use Rattle.tpoint.proofs.Periods.{at_or_before, strictly_before}
use Rattle.tpoint.specs.Fraction.{Fraction, ◌<ᶠ◌}
use Rattle.tpoint.specs.Extents.{Before}

-- ---- of two begins, the one that leaves less
pub begins_later : (s t : Bool) (a b u : Fraction) → Before (not t) a b → Before t b u → Before s a u
begins_later s true a b u h k = strictly_before s (<ᶠ-≤ᶠ (h.apart refl) k.not_after)
begins_later s false a b u h k = strictly_before s (≤ᶠ-<ᶠ h.not_after (k.apart refl))

pub begins_no_later : (s t : Bool) (a b u : Fraction) → ¬ Before (not t) a b → Before s a u → Before t b u
begins_no_later s true a b u n k = at_or_before (≤ᶠ_trans (not_below a b (λ h. n (strictly_before false h))) k.not_after)
begins_no_later s false a b u n k = strictly_before false (<ᶠ-≤ᶠ (above a b (λ h. n (at_or_before h))) k.not_after)

-- ---- of two ends, the one that leaves less
pub ends_earlier : (s t : Bool) (a b u : Fraction) → Before (not t) b a → Before t u b → Before s u a
ends_earlier s true a b u h k = strictly_before s (≤ᶠ-<ᶠ k.not_after (h.apart refl))
ends_earlier s false a b u h k = strictly_before s (<ᶠ-≤ᶠ (k.apart refl) h.not_after)

pub ends_no_earlier : (s t : Bool) (a b u : Fraction) → ¬ Before (not t) b a → Before s u a → Before t u b
ends_no_earlier s true a b u n k = at_or_before (≤ᶠ_trans k.not_after (not_below b a (λ h. n (strictly_before false h))))
ends_no_earlier s false a b u n k = strictly_before false (≤ᶠ-<ᶠ k.not_after (above b a (λ h. n (at_or_before h))))

-- ---- something lies between two ends: their mediant, where they differ
mediant : Fraction → Fraction → Fraction
mediant a b = record { num = a.num +ℤ b.num; den = a.den + b.den; at_least_one = omega (arith, a.at_least_one) }

mediant_above : (a b : Fraction) → a <ᶠ b → a <ᶠ mediant a b
unfolding mediant
mediant_above a b h =
    let A = int a.num in
    let B = int b.num in
    let apart = lt_parts (A ⊛ nat b.den) (B ⊛ nat a.den) h.cross in
    record { cross = lt_from (A ⊛ nat (a.den + b.den)) ((A ⊕ B) ⊛ nat a.den) (omega (arith, apart)) }

mediant_below : (a b : Fraction) → a <ᶠ b → mediant a b <ᶠ b
unfolding mediant
mediant_below a b h =
    let A = int a.num in
    let B = int b.num in
    let apart = lt_parts (A ⊛ nat b.den) (B ⊛ nat a.den) h.cross in
    record { cross = lt_from ((A ⊕ B) ⊛ nat b.den) (B ⊛ nat (a.den + b.den)) (omega (arith, apart)) }

between_apart : (s t : Bool) (a b : Fraction) → a <ᶠ b → (u : Fraction) × Before s a u × Before t u b
between_apart s t a b h =
    (mediant a b, strictly_before s (mediant_above a b h), strictly_before t (mediant_below a b h))

-- between two ends lies something exactly where they are in order, and apart unless both count
pub between_ends : (s t : Bool) (a b : Fraction) → Before (s && t) a b → (u : Fraction) × Before s a u × Before t u b
between_ends true true a b h = (a, at_or_before (≤ᶠ_refl a), at_or_before h.not_after)
between_ends true false a b h = between_apart true false a b (h.apart refl)
between_ends false t a b h = between_apart false t a b (h.apart refl)

pub ends_in_order : (s t : Bool) (a b u : Fraction) → Before s a u → Before t u b → Before (s && t) a b
ends_in_order true true a b u p q = at_or_before (≤ᶠ_trans p.not_after q.not_after)
ends_in_order true false a b u p q = strictly_before false (≤ᶠ-<ᶠ p.not_after (q.apart refl))
ends_in_order false t a b u p q = strictly_before false (<ᶠ-≤ᶠ (p.apart refl) q.not_after)
