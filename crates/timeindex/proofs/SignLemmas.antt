-- The sign of two numbers at once.
use Rattle.std.proofs.Common.{◌≡◌, ℕ, suc, ◌-◌, ◌<◌, ◌≤◌, ◌^◌, ◌&&◌, ℤ, pos, negsuc, int_le, bit_or, FitsSigned, true, false, ap, subst}
use Rattle.std.proofs.Common.{sym, ◌∙◌, arith}
use Rattle.std.specs.Int.{w64, int_bit_or, cast_signed, cast_unsigned}
use Rattle.std.proofs.lemmas.Nat.{or_lt, le_or_l, le_or_r}
use Rattle.std.proofs.lemmas.Int.{to_z_pos}
use Rattle.std.proofs.lemmas.Bool.Decides.{nat_tests}
use Rattle.std.proofs.Math.Facts.{to_z-neg}

zero_le : (n : ℕ) → int_le (pos 0) (pos n) ≡ true
zero_le n = grind (arith, nat_tests)

-- a number whose highest bit is set is negative
high_is_negative : (n : ℕ) → 2 ^ 63 ≤ n → n < 2 ^ 64 → int_le (pos 0) (cast_signed w64 n) ≡ false
high_is_negative n high fits =
    let k = 2 ^ 64 - suc n in
    let back : 2 ^ 64 - suc k ≡ n = omega (arith, high, fits) in
    let is = subst (λ m. cast_signed w64 m ≡ negsuc k) back (to_z-neg w64 k (omega (arith, high, fits))) in
    ap (int_le (pos 0)) is

bits_fit : (z : ℤ) → FitsSigned w64 z → cast_unsigned w64 z < 2 ^ 64
bits_fit (pos n) fits = omega (arith, fits.sfits)
bits_fit (negsuc n) fits = omega arith

negative_is_high : (n : ℕ) → FitsSigned w64 (negsuc n) → 2 ^ 63 ≤ cast_unsigned w64 (negsuc n)
negative_is_high n fits = omega (arith, fits.sfits)

-- the highest bit of `a | b` is set where that of either is
pub sign_or : (a b : ℤ) → FitsSigned w64 a → FitsSigned w64 b →
    int_le (pos 0) (int_bit_or w64 a b) ≡ (int_le (pos 0) a && int_le (pos 0) b)
sign_or (pos m) (pos n) f g =
    ap (int_le (pos 0)) (to_z_pos w64 (bit_or m n) (or_lt 63 m n f.sfits g.sfits)) ∙ zero_le (bit_or m n)
    ∙ sym (λ j. zero_le m j && zero_le n j)
sign_or (pos m) (negsuc n) f g =
    let low = negative_is_high n g in
    let more = le_or_r m (2 ^ 64 - suc n) in
    high_is_negative (bit_or m (2 ^ 64 - suc n)) (omega (arith, low, more))
    (or_lt 64 m (2 ^ 64 - suc n) (bits_fit (pos m) f) (bits_fit (negsuc n) g))
    ∙ sym (λ j. zero_le m j && false)
sign_or (negsuc m) b f g =
    let low = negative_is_high m f in
    let more = le_or_l (2 ^ 64 - suc m) (cast_unsigned w64 b) in
    high_is_negative (bit_or (2 ^ 64 - suc m) (cast_unsigned w64 b)) (omega (arith, low, more))
    (or_lt 64 (2 ^ 64 - suc m) (cast_unsigned w64 b) (bits_fit (negsuc m) f) (bits_fit b g))
