-- Decimal digits, and lists cut at one place.
use Rattle.std.proofs.Common.{◌≡◌, ℕ, zero, suc, ◌+◌, ◌-◌, ◌*◌, ◌/◌, ◌%◌, ◌^◌, ◌<◌, ◌≤◌, List, [], ◌∷◌, ◌++◌, length, All, get_or, take}
use Rattle.std.proofs.Common.{drop, None, Some, false, ◌↔◌, subst, refl, arith, ap, sym, ◌∙◌}
use Rattle.std.proofs.Math.Seq.{drop-cons}
use Rattle.std.proofs.Math.ListN.{drop_of_length-le}
use Rattle.std.specs.List.{slice_range}
use Rattle.std.specs.Prelude.{IsTrue}
use Rattle.std.proofs.lemmas.List.Folds.{drop_split}
use Rattle.std.proofs.lemmas.List.{length-append, length-take-le, length-drop, take_more}
use Rattle.std.proofs.Math.Numerals.{add-one}
use Rattle.std.proofs.lemmas.List.Elements.{All-append, All-get_or}
use Rattle.std.proofs.lemmas.Option.{same_Some}
use Rattle.mfjson.specs.Digits.{digits, IsNumber}
use Rattle.std.specs.Char.{IsAsciiDigit}

head_same : (x y : ℕ) {xs ys : List ℕ} → x ∷ xs ≡ y ∷ ys → x ≡ y
head_same x y e = cc

last_is : (n : ℕ) → IsAsciiDigit (48 + n % 10)
last_is n = (omega arith, omega arith)

pub zero_below : (k : ℕ) → k < 1 → k ≡ 0
zero_below k h = omega (arith, h)

-- two equal lists, each cut after as many elements
pub append_same : (xs ys us vs : List ℕ) → length xs ≡ length ys → xs ++ us ≡ ys ++ vs → (xs ≡ ys) × (us ≡ vs)
append_same [] [] us vs h e = (refl, e)
append_same [] (y ∷ ys) us vs h e = absurd (omega (arith, h))
append_same (x ∷ xs) [] us vs h e = absurd (omega (arith, h))
append_same (x ∷ xs) (y ∷ ys) us vs h e =
    let same : xs ++ us ≡ ys ++ vs = cc in
    let head : x ≡ y = cc in
    let rest = append_same xs ys us vs (omega (arith, h)) same in
    let tail : xs ≡ ys = rest.0 in
    (cc, rest.1)

pub length-digits : (count n : ℕ) → length (digits count n) ≡ count
length-digits zero n = refl
length-digits (suc count) n =
    omega (arith, length-append (digits count (n / 10)) ((48 + n % 10) ∷ []), length-digits count (n / 10))

-- a number is told by its digits
pub digits_injective : (count m n : ℕ) → m < 10 ^ count → n < 10 ^ count → digits count m ≡ digits count n → m ≡ n
digits_injective zero m n a b e = omega (arith, a, b)
digits_injective (suc count) m n a b e =
    let long : length (digits count (m / 10)) ≡ length (digits count (n / 10)) =
    length-digits count (m / 10) ∙ sym (length-digits count (n / 10)) in
    let parts = append_same (digits count (m / 10)) (digits count (n / 10)) _ _ long e in
    let last : m % 10 ≡ n % 10 = omega (arith, head_same _ _ parts.1) in
    let power : 10 ^ suc count ≡ 10 * 10 ^ count = omega arith in
    let front = digits_injective count (m / 10) (n / 10) (omega (arith, power, a)) (omega (arith, power, b)) parts.0 in
    omega (arith, last, front)

-- each of them is a digit
pub digits_are_digits : (count n : ℕ) → All IsAsciiDigit (digits count n)
digits_are_digits zero n = λ k d h. absurd (omega (arith, h))
digits_are_digits (suc count) n =
    All-append IsAsciiDigit (digits count (n / 10)) ((48 + n % 10) ∷ []) (digits_are_digits count (n / 10))
    (λ k d h. rw (zero_below k h) (last_is n))

-- one digit more
pub digits_push : (count n d : ℕ) → d < 10 → digits (suc count) (n * 10 + d) ≡ digits count n ++ (48 + d) ∷ []
digits_push count n d h =
    let front : (n * 10 + d) / 10 ≡ n = omega (arith, h) in
    let last : (n * 10 + d) % 10 ≡ d = omega (arith, h) in
    rw (front, last)

power_more : (i : ℕ) → 10 ^ (i + 1) ≡ 10 * 10 ^ i
power_more i = rw (add-one i) (omega arith)

-- one digit more was read
pub number_step : (text : List ℕ) (i n : ℕ) → i < length text → IsAsciiDigit (get_or text i 0) → n < 10 ^ i →
    take i text ≡ digits i n →
    record {
      below : n * 10 + (get_or text i 0 - 48) < 10 ^ (i + 1);
      read : take (i + 1) text ≡ digits (i + 1) (n * 10 + (get_or text i 0 - 48));
    }
number_step text i n h digit below read =
    let d : ℕ = get_or text i 0 - 48 in
    let low : d < 10 = omega (arith, digit.0, digit.1) in
    let back : 48 + d ≡ get_or text i 0 = omega (arith, digit.0) in
    let power : 10 ^ (i + 1) ≡ 10 * 10 ^ i = power_more i in
    record {
      below = omega (arith, power, low, below);
      read = take_more text i 0 h ∙ ap (λ xs. xs ++ get_or text i 0 ∷ []) read ∙ ap (λ x. digits i n ++ x ∷ []) (sym back)
          ∙ sym (digits_push i n d low) ∙ ap (λ k. digits k (n * 10 + d)) (sym (add-one i));
    }

-- the number that was read is the only one
pub number_exact : (text : List ℕ) (n : ℕ) → n < 10 ^ length text → text ≡ digits (length text) n → (m : ℕ) →
    IsNumber text m ↔ (Some n ≡ Some m)
number_exact text n below read m = (
  λ (h : IsNumber text m). ap Some (digits_injective (length text) n m below h.fits (sym read ∙ h.spelling)),
  λ e. subst (IsNumber text) (same_Some n m e) (record { fits = below; spelling = read }),
)

-- a text with another byte is no number
pub not_number : (text : List ℕ) (i d : ℕ) → i < length text → ¬ IsAsciiDigit (get_or text i d) → (m : ℕ) →
    ¬ IsNumber text m
not_number text i d h other m is =
    let all : All IsAsciiDigit text = rw is.spelling (digits_are_digits (length text) m) in
    other (All-get_or IsAsciiDigit text i d h all)

-- ---- numbers of a known length
pub number_spelling : (text : List ℕ) (count n : ℕ) → length text ≡ count → IsNumber text n → text ≡ digits count n
number_spelling text count n long is = subst (λ k. text ≡ digits k n) long is.spelling

pub number_is : (text : List ℕ) (count n : ℕ) → n < 10 ^ count → text ≡ digits count n → IsNumber text n
number_is text count n below e =
    let long : length text ≡ count = ap length e ∙ length-digits count n in
    record {
      fits = subst (λ k. n < 10 ^ k) (sym long) below;
      spelling = subst (λ k. text ≡ digits k n) (sym long) e;
    }

-- a text is one number
pub number_unique : (text : List ℕ) (m n : ℕ) → IsNumber text m → IsNumber text n → m ≡ n
number_unique text m n a b = digits_injective (length text) m n a.fits b.fits (sym a.spelling ∙ b.spelling)

-- ---- a text as its parts
pub part_length : (text : List ℕ) (from to : ℕ) → from ≤ to → to ≤ length text →
    length (slice_range text from to) ≡ to - from
part_length text from to a b =
    length-take-le (to - from) (drop from text) (omega (arith, length-drop from text, a, b))

pub drop_part : (text : List ℕ) (from to : ℕ) (rest : List ℕ) → from ≤ to → drop to text ≡ rest →
    drop from text ≡ slice_range text from to ++ rest
drop_part text from to rest h e = drop_split text from to h ∙ ap (λ r. slice_range text from to ++ r) e

pub drop_byte : (text : List ℕ) (at byte : ℕ) (rest : List ℕ) → at < length text → get_or text at 0 ≡ byte →
    drop (suc at) text ≡ rest → drop at text ≡ byte ∷ rest
drop_byte text at byte rest h e d =
    drop-cons text at 0 h ∙ ap (λ b. b ∷ drop (suc at) text) e ∙ ap (λ r. byte ∷ r) d

pub drop_end : (text : List ℕ) (at : ℕ) → length text ≡ at → drop at text ≡ []
drop_end text at h = drop_of_length-le text (omega (arith, h))

-- what is not there is not found
pub none_exact : {A : Type 0} (P : Type 0) (x : A) → ¬ P → P ↔ (None ≡ Some x)
none_exact {A} P x never = (λ p. absurd (never p), λ e. absurd (cc))

pub never_found : {A : Type 0} {x : A} → ¬ (None ≡ Some x)
never_found e = absurd (cc)

-- nor what needs what is not there
pub none_without : {A B : Type 0} (P Q : Type 0) (x : A) (y : B) → (P → Q) → Q ↔ (None ≡ Some y) → P ↔ (None ≡ Some x)
none_without {A} {B} P Q x y needs none = none_exact P x (λ p. let gone = none.0 (needs p) in absurd (cc))

-- nor what would make a false test true
pub none_told : {A : Type 0} (P : Type 0) (x : A) → (P → IsTrue false) → P ↔ (None ≡ Some x)
none_told {A} P x never = none_exact P x (λ p. let told = never p in absurd (cc))
