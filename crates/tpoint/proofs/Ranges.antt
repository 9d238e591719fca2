-- Numbers as the code casts, subtracts and multiplies them: what it has afterwards is the number itself.
use Rattle.std.proofs.Common.{◌≡◌, ℕ, ◌^◌, ◌<◌, ℤ, pos, ◌-ℤ◌, ◌*ℤ◌, ◌≤ℤ◌, unsigned_abs, SFits, to_z, of_z, arith}
use Rattle.std.proofs.lemmas.Int.{ints, to_z-of_z, unsigned_abs-mul, fits_signed_from_abs}
use Rattle.std.proofs.lemmas.Nat.{mul-lt}
use mir.Syntax.{w64, w128}
use Rattle.tpoint.specs.Coordinates.{InRange}
use Rattle.tpoint.specs.Instants.{IsInstant}

-- ---- coordinates
-- a coordinate fits 64 bits
pub coordinate_fits : (z : ℤ) → InRange z → SFits w64 z
coordinate_fits z h = omega (arith, ints, h.least, h.greatest)

-- and is one after it was handed on
pub stays_in_range : (z : ℤ) → InRange z → InRange (to_z w64 (of_z w64 z))
stays_in_range z h = rw (to_z-of_z w64 z (coordinate_fits z h)) h

-- ---- from one instant to another
-- the difference of what two numbers of milliseconds are in 64 bits
abbrev pub apart : ℤ → ℤ → ℤ
apart s t = to_z w64 (of_z w64 t) -ℤ to_z w64 (of_z w64 s)

instant_is : (t : ℤ) → IsInstant t → to_z w64 (of_z w64 t) ≡ t
instant_is t h = omega (arith, ints, h.not_before, h.not_after)

difference_small : (s t : ℤ) → IsInstant s → IsInstant t → unsigned_abs (t -ℤ s) < 2 ^ 48
difference_small s t g h = omega (arith, ints, g.not_before, g.not_after, h.not_before, h.not_after)

pub difference_fits : (s t : ℤ) → IsInstant s → IsInstant t → SFits w64 (t -ℤ s)
difference_fits s t g h = fits_signed_from_abs w64 (t -ℤ s) (omega (arith, difference_small s t g h))

pub apart_is : (s t : ℤ) → IsInstant s → IsInstant t → to_z w64 (of_z w64 (apart s t)) ≡ t -ℤ s
apart_is s t g h = rw (instant_is s g, instant_is t h) (to_z-of_z w64 (t -ℤ s) (difference_fits s t g h))

pub apart_fits : (s t : ℤ) → IsInstant s → IsInstant t → SFits w64 (apart s t)
apart_fits s t g h = rw (instant_is s g, instant_is t h) (difference_fits s t g h)

pub apart_small : (s t : ℤ) → IsInstant s → IsInstant t → unsigned_abs (to_z w64 (of_z w64 (apart s t))) < 2 ^ 48
apart_small s t g h = rw (apart_is s t g h) (difference_small s t g h)

pub after_positive : (s t : ℕ) → s < t → pos 1 ≤ℤ (pos t -ℤ pos s)
after_positive s t h = omega (arith, ints)

-- ---- products in 128 bits
-- a number of 64 bits is the same in 128
pub wider : (z : ℤ) → SFits w64 z → to_z w128 (of_z w128 (to_z w64 (of_z w64 z))) ≡ z
wider z fits = omega (arith, ints)

pub small_product : (a b : ℤ) → unsigned_abs a < 2 ^ 48 → unsigned_abs b < 2 ^ 48 → unsigned_abs (a *ℤ b) < 2 ^ 96
small_product a b p q = rw (unsigned_abs-mul a b) (mul-lt (unsigned_abs a) (unsigned_abs b) (2 ^ 48) (2 ^ 48) p q)

pub wide_product : (a b : ℤ) → unsigned_abs a < 2 ^ 48 → unsigned_abs b < 2 ^ 48 → SFits w128 (a *ℤ b)
wide_product a b p q = fits_signed_from_abs w128 (a *ℤ b) (omega (arith, small_product a b p q))
