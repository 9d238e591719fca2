-- A numeral without point and exponent, and the number that it is read as.
use Rattle.std.proofs.Common.{◌≡◌, ℕ, List, drop, ℤ, pos, ◌^◌, ◌<◌, ◌≤◌, true, false, Option, Some, None, length, refl, sym, ◌∙◌, subst}
use Rattle.std.proofs.Common.{arith, lt-ltb, le-leb, w64, to_z-of_z}
use mir.Val.{to_z, of_z}
use Rattle.std.specs.Prelude.{FitsSigned, IfSome, int_lt, slice_index, ◌==◌}
use Rattle.fast_float.specs.Text.{Parts, scan, IsInteger, digits_of, with_sign}
use Rattle.serde_json.specs.Data.{unsigned, negative}
use Rattle.serde_json.specs.Read.{number_from, number_of, is_integer}
use Rattle.mfjson.specs.Tokens.{IsWhole, IsSigned}

integer : (p : Parts) → IsInteger p → is_integer p ≡ true
integer p is = rw (lt-ltb 0 (length p.whole) is.0, is.1, is.2) refl

pub unsigned_whole : (p : Parts) → IsInteger p → FitsSigned w64 (with_sign false (digits_of p)) →
    IsWhole (number_from false p) (with_sign false (digits_of p))
unsigned_whole p is fits =
    let small : digits_of p < 2 ^ 63 = grind arith in
    record {
      n = unsigned (digits_of p);
      is_number = rw (integer p is, lt-ltb (digits_of p) (2 ^ 64) (omega (arith, small))) refl;
      whole = rw (lt-ltb (digits_of p) (2 ^ 63) small) refl;
    }

pub negative_whole : (p : Parts) → IsInteger p → FitsSigned w64 (with_sign true (digits_of p)) →
    int_lt (with_sign true (digits_of p)) (pos 0) ≡ true
    → IsWhole (number_from true p) (with_sign true (digits_of p))
negative_whole p is fits below =
    let some : 0 < digits_of p = grind arith in
    let small : digits_of p ≤ 2 ^ 63 = grind arith in
    record {
      n = negative (with_sign true (digits_of p));
      is_number = rw (integer p is, lt-ltb 0 (digits_of p) some, le-leb (digits_of p) (2 ^ 63) small) refl;
      whole = refl;
    }

pub plain_answer : (text : List ℕ) (o : Option ℤ) → (slice_index text 0 == 45) ≡ false → IfSome o (λ z. IsSigned false (scan text) z) →
    IfSome o (λ z. IsWhole (number_of text) z)
unfolding number_of
plain_answer text None plain h = tt
plain_answer text (Some z) plain h =
    let p = scan text in
    let read : number_from false p ≡ number_of text = rw plain refl in
    subst (λ v. IsWhole (number_of text) v) (sym h.value)
    (subst (λ o. IsWhole o (with_sign false (digits_of p))) read (unsigned_whole p h.integer h.fits))

pub signed_answer : (text : List ℕ) (z : ℤ) → (slice_index text 0 == 45) ≡ true → int_lt (to_z w64 (of_z w64 z)) (pos 0) ≡ true →
    IsSigned true (scan (drop 1 text)) z → IsWhole (number_of text) (to_z w64 (of_z w64 z))
unfolding number_of
signed_answer text z minus below h =
    let p = scan (drop 1 text) in
    let same : with_sign true (digits_of p) ≡ z = sym h.value in
    let back : with_sign true (digits_of p) ≡ to_z w64 (of_z w64 z) = same ∙ sym (to_z-of_z (subst (λ v. FitsSigned w64 v) same h.fits)) in
    let read : number_from true p ≡ number_of text = rw minus refl in
    let less = subst (λ v. int_lt v (pos 0) ≡ true) (sym back) below in
    subst (λ v. IsWhole (number_of text) v) back
    (subst (λ o. IsWhole o (with_sign true (digits_of p))) read (negative_whole p h.integer h.fits less))
