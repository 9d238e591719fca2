-- Which words write a number.
use Rattle.std.proofs.Common.{◌≡◌, ◌≢◌, ℕ, ◌<◌, ◌≤◌, ◌^◌, zero, suc, List, ◌∷◌, length, get_or, Option, Some, None, Result, Ok, Err}
use Rattle.std.proofs.Common.{take, ◌+◌, ◌*◌, ◌-◌, MatchOption, arith, ap, sym, ◌∙◌, refl, ◌↔◌, IsSome, IfSome}
use Rattle.std.specs.Fmt.{decimal}
use Rattle.std.specs.Result.{result_ok}
use Rattle.std.specs.Str.{IsUtf8}
use Rattle.std.specs.Str.Parse.{ParsesUnsigned, AllDigits, digits_value}
use Rattle.std.proofs.lemmas.Fmt.{decimal_is_IsNumeral, parse-decimal, decimal-digits_value, decimal_digit, first_decimal, decimal_nonempty}
use Rattle.std.proofs.lemmas.Fmt.{decimal_injective, IsAscii-decimal}
use Rattle.std.proofs.lemmas.Str.{IsUtf8-from_ascii, digit_value_digit}
use Rattle.std.proofs.lemmas.Str.Parse.{IsNumeralModel, numerals_by_value, tells_digits, parse_plain, digit_at, digits_value_short}
use Rattle.std.proofs.lemmas.Int.Digits.{digits_more, digits_value_more}
use Rattle.std.specs.Char.{digit_value}
use Rattle.std.specs.Int.{IsInRange}
use Rattle.std.proofs.lemmas.Grind.{common_steps}
use Rattle.schedule.specs.Numbers.{WritesNumber, IsPlain}

own : IsNumeralModel (AllDigits 10) (digits_value 10)
own = numerals_by_value (AllDigits 10) tells_digits

-- the text of zero is one digit, and that of another number begins with another
zero_alone : (value : ℕ) → value < 2 ^ 64 → get_or (decimal value) 0 0 ≡ 48 → length (decimal value) ≡ 1
zero_alone zero small first = ap length (decimal_digit 0 (omega arith))
zero_alone (suc k) small first = absurd (omega (arith, first_decimal (suc k) (omega arith) small, first))

no_plus : (value : ℕ) → value < 2 ^ 64 → get_or (decimal value) 0 0 ≢ 43
no_plus value small plus =
    let numeral = decimal_is_IsNumeral value small in
    let digit = digit_at (decimal value) 0 numeral.0.1 numeral.0.0 in
    omega (arith, digit, plus)

-- it begins with no minus sign
pub no_minus : (value : ℕ) (digits : List ℕ) → value < 2 ^ 64 → 45 ∷ digits ≢ decimal value
no_minus value digits small same =
    let numeral = decimal_is_IsNumeral value small in
    let digit = digit_at (decimal value) 0 numeral.0.1 numeral.0.0 in
    let first : get_or (decimal value) 0 0 ≡ 45 = ap (λ (ds : List ℕ). get_or ds 0 0) (sym same) in
    omega (arith, digit, first)

-- the text of a number is plain
pub writes_plainly : (word : List ℕ) (value : ℕ) → WritesNumber 0 (2 ^ 64) word value → IsPlain word
writes_plainly word value w = rw w.text (record {
  not_empty = decimal_nonempty value w.below;
  no_plus = no_plus value w.below;
  zero_alone = zero_alone value w.below;
})

pub writes_text : (word : List ℕ) (value : ℕ) → WritesNumber 0 (2 ^ 64) word value → IsUtf8 word
writes_text word value w = rw w.text (IsUtf8-from_ascii _ (IsAscii-decimal value w.below))

-- what `parse` reads from a plain word is what the word writes
pub parsed_writes : {E : Type 0} (word : List ℕ) (read : Result ℕ E) → ParsesUnsigned 64 10 word read → IsPlain word
    → MatchOption (result_ok read) ((value : ℕ) → ¬ (WritesNumber 0 (2 ^ 64) word value)) (WritesNumber 0 (2 ^ 64) word)
parsed_writes {E = E} word (Ok value) parses plain =
    let p = parse_plain own {E = E} 64 word (Ok value) parses plain.no_plus in
    let text : decimal (digits_value 10 word) ≡ word =
    decimal-digits_value own word p.0.0 plain.not_empty plain.zero_alone p.0.2 in
    rw p.1 (record { from = omega arith; below = p.0.2; text = sym text })
parsed_writes word (Err error) parses plain =
    λ value w. let read = parse-decimal 64 value word (Err error) w.below w.below w.text parses in cc

-- a word that writes a number is digits alone
writes_digits : (word : List ℕ) (value : ℕ) → WritesNumber 0 (2 ^ 64) word value → AllDigits 10 word
writes_digits word value w = rw w.text ((decimal_is_IsNumeral value w.below).0.1)

-- what a plain word of few digits is worth is what it writes
pub small_writes : (word : List ℕ) (read : Option ℕ)
    → MatchOption read (¬ (AllDigits 10 word)) (λ value. AllDigits 10 word × (value ≡ digits_value 10 word))
    → length word ≤ 19 → IsPlain word
    → MatchOption read ((value : ℕ) → ¬ (WritesNumber 0 (2 ^ 64) word value)) (WritesNumber 0 (2 ^ 64) word)
small_writes word None other short plain = λ value w. other (writes_digits word value w)
small_writes word (Some value) worth short plain =
    let small : digits_value 10 word < 2 ^ 64 = omega (arith, digits_value_short own word 19 worth.0 short) in
    rw worth.1 (record {
      from = omega arith;
      below = small;
      text = sym (decimal-digits_value own word worth.0 plain.not_empty plain.zero_alone small);
    })

-- the first digits are worth less than 10^18 where one follows of at most 19
pub digits_below : (word : List ℕ) (i value : ℕ) → i < length word → length word ≤ 19 → AllDigits 10 (take i word)
    → value ≡ digits_value 10 (take i word) → value < 10 ^ 18
digits_below word i value inside short all is = rw is (digits_value_short own (take i word) 18 all (grind (arith, common_steps)))

-- one digit more
pub digit_more : (word : List ℕ) (i byte value : ℕ) → i < length word → byte ≡ get_or word i 0 → IsInRange 48 57 byte
    → AllDigits 10 (take i word) → value ≡ digits_value 10 (take i word)
    → AllDigits 10 (take (i + 1) word) × (value * 10 + (byte - 48) ≡ digits_value 10 (take (i + 1) word))
digit_more word i byte value inside at digit all is =
    let own_worth : digit_value byte ≡ byte - 48 = omega (arith, digit_value_digit byte digit) in
    let worth : digit_value (get_or word i 0) ≡ byte - 48 = rw (← at) own_worth in
    (digits_more 10 word i inside all (omega (arith, worth, digit)), rw (digits_value_more 10 word i inside, worth, ← is) refl)

-- a word writes one number
pub writes_one : (word : List ℕ) (least limit value other : ℕ) → limit ≤ 2 ^ 64 → WritesNumber 0 (2 ^ 64) word value
    → WritesNumber least limit word other → other ≡ value
writes_one word least limit value other small w o =
    decimal_injective other value (omega (arith, o.below)) w.below (sym o.text ∙ w.text)

-- a number that is written and isn't 0 is a request's
pub written_from_one : (word : List ℕ) (value : ℕ) (made : Option ℕ) → WritesNumber 0 (2 ^ 64) word value → IsSome made ↔ (1 ≤ value)
    → IfSome made (λ number. number ≡ value)
    → MatchOption made ((number : ℕ) → ¬ (WritesNumber 1 (2 ^ 64) word number)) (WritesNumber 1 (2 ^ 64) word)
written_from_one word value None w valid same =
    λ number o.
    let one = writes_one word 1 (2 ^ 64) value number (omega arith) w o in
    let none = valid.1 (omega (arith, one, o.from)) in cc
written_from_one word value (Some number) w valid same =
    rw same (record { from = valid.0 refl; below = w.below; text = w.text })
