-- The numbers that few digits spell.
use Rattle.std.proofs.Common.{◌≡◌, ℕ, ◌+◌, ◌*◌, ◌-◌, ◌^◌, ◌<◌, ◌≤◌, false, List, [], length, take, get_or, arith, refl, sym, ◌∙◌, ap, append-nil}
use Rattle.std.specs.Char.{digit_value}
use Rattle.std.specs.Int.{IsInRange}
use Rattle.std.specs.Str.Parse.{AllDigits, digits_value}
use Rattle.std.proofs.lemmas.Grind.{common_steps}
use Rattle.std.proofs.lemmas.Int.Digits.{digits_more, digits_value_more}
use Rattle.std.proofs.lemmas.Str.{digit_value_digit}
use Rattle.std.proofs.lemmas.Str.Parse.{IsNumeralModel, numerals_by_value, tells_digits, digits_value_short}
use Rattle.fast_float.specs.Text.{Parts, scan, digits_of, IsInteger}
use Rattle.fast_float.proofs.Writing.{scan-text_of}

own : IsNumeralModel (AllDigits 10) (digits_value 10)
own = numerals_by_value (AllDigits 10) tells_digits

-- so many digits are worth less
pub digits_fit : (digits : List ℕ) → length digits ≤ 18 → AllDigits 10 digits → digits_value 10 digits < 10 ^ 18
digits_fit digits short all = digits_value_short own digits 18 all short

-- and less by one place where one more follows
pub digits_below : (digits : List ℕ) (i n : ℕ) → i < length digits → length digits ≤ 18 → AllDigits 10 (take i digits) →
    n ≡ digits_value 10 (take i digits) → n < 10 ^ 17
digits_below digits i n inside short all is = rw is (digits_value_short own (take i digits) 17 all (grind (arith, common_steps)))

-- one digit more
pub digit_more : (digits : List ℕ) (i byte n : ℕ) → i < length digits → byte ≡ get_or digits i 0 → IsInRange 48 57 byte →
    AllDigits 10 (take i digits) → n ≡ digits_value 10 (take i digits) →
    AllDigits 10 (take (i + 1) digits) × (n * 10 + (byte - 48) ≡ digits_value 10 (take (i + 1) digits))
digit_more digits i byte n inside at digit all is =
    let own_worth : digit_value byte ≡ byte - 48 = omega (arith, digit_value_digit byte digit) in
    let worth : digit_value (get_or digits i 0) ≡ byte - 48 = rw (← at) own_worth in
    (digits_more 10 digits i inside all (omega (arith, worth, digit)), rw (digits_value_more 10 digits i inside, worth, ← is) refl)

-- ---- a text of digits alone, as a numeral
abbrev plain_parts : List ℕ → Parts
plain_parts digits =
    record { whole = digits; point = false; fraction = []; exponent_negative = false; exponent = []; len = length digits }

scan_digits : (digits : List ℕ) → AllDigits 10 digits → scan digits ≡ plain_parts digits
scan_digits digits all =
    let text = append-nil digits in
    ap scan (sym text) ∙ scan-text_of (plain_parts digits) (record {
      whole_digits = all;
      fraction_digits = tt;
      exponent_digits = tt;
      no_point = λ e. refl;
      no_exponent = λ e. refl;
      len_is = ap length (sym text);
    })

pub record IsSmall (digits : List ℕ) (n : ℕ) : Type 0 where
  pub integer : IsInteger (scan digits)
  pub value : n ≡ digits_of (scan digits)
  pub below : n < 10 ^ 18

pub small : (digits : List ℕ) (n : ℕ) → 0 < length digits → length digits ≤ 18 → AllDigits 10 digits → n ≡ digits_value 10 digits →
    IsSmall digits n
small digits n some short all is =
    record {
      integer = rw (scan_digits digits all) (some, refl, refl);
      value = rw (scan_digits digits all, append-nil digits) is;
      below = rw is (digits_fit digits short all);
    }
