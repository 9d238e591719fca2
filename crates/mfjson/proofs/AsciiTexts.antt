-- Ids and datetimes are ASCII, and a text in JSON as they are.
use Rattle.std.proofs.Common.{◌≡◌, ℕ, suc, ◌<◌, ◌≤◌, ◌%◌, ◌/◌, List, [], ◌∷◌, ◌++◌, length, All, inl, inr, arith, subst, sym}
use Rattle.std.specs.Str.{IsUtf8}
use Rattle.std.specs.Prelude.{refl}
use Rattle.std.specs.Char.{IsAsciiDigit}
use Rattle.std.proofs.lemmas.Bool.{cases_lt}
use Rattle.std.proofs.lemmas.List.{get_or_past}
use Rattle.std.proofs.lemmas.List.Elements.{All-append, All-get_or}
use Rattle.std.proofs.lemmas.Str.{IsUtf8-from_ascii}
use mathlib.Core.Bool.{false≢true}
use Rattle.json.specs.Print.{escape}
use Rattle.json.proofs.Printed.Strings.{escape_byte_plain}
use Rattle.tpoint.specs.Ids.{IsId, IsIdByte}
use Rattle.mfjson.specs.Digits.{digits}
use Rattle.mfjson.specs.Datetime.{IsDatetime, IsDateText, IsClockText, IsSecondText}
use Rattle.mfjson.proofs.DigitsLemmas.{digits_are_digits, zero_below}

-- ASCII, and none that is escaped in a text of JSON
record IsLow (b : ℕ) : Type 0 where
  from_35 : 35 ≤ b
  below_128 : b < 128
  other : b ≡ 92 → ⊥

-- each byte is such
record Low (bs : List ℕ) : Type 0 where
  all : All IsLow bs

utf8_of : (bs : List ℕ) → Low bs → IsUtf8 bs
utf8_of bs low =
    IsUtf8-from_ascii bs (λ i. elim (cases_lt i (length bs)) [
      | inl lt ↦ (All-get_or IsLow bs i 0 lt low.all).below_128
      | inr ge ↦ rw (get_or_past bs i 0 ge) (omega arith)
    ])

id_byte_ascii : (b : ℕ) → IsIdByte b → b < 128
id_byte_ascii b h = grind arith

id_byte_from_35 : (b : ℕ) → IsIdByte b → 35 ≤ b
id_byte_from_35 b h = grind arith

id_byte_other : (b : ℕ) → IsIdByte b → b ≡ 92 → ⊥
id_byte_other b h e = false≢true (subst IsIdByte e h)

id_byte_low : (b : ℕ) → IsIdByte b → IsLow b
id_byte_low b h = record { from_35 = id_byte_from_35 b h; below_128 = id_byte_ascii b h; other = id_byte_other b h }

low_id : (text : List ℕ) → IsId text → Low text
low_id text is = record { all = λ i d h. id_byte_low _ (is.of_id_bytes i d h) }

pub id_utf8 : (text : List ℕ) → IsId text → IsUtf8 text
id_utf8 text is = utf8_of text (low_id text is)

low_digit : (b : ℕ) → IsAsciiDigit b → IsLow b
low_digit b is =
    record { from_35 = omega (arith, is.0); below_128 = omega (arith, is.1); other = λ e. omega (arith, is.1, e) }

low_digits : (count n : ℕ) → Low (digits count n)
low_digits count n = record { all = λ i d h. low_digit _ (digits_are_digits count n i d h) }

mark : (b : ℕ) → IsLow b → Low (b ∷ [])
mark b h = record { all = λ i d below. rw (zero_below i below) h }

both : (xs ys : List ℕ) → Low xs → Low ys → Low (xs ++ ys)
both xs ys p q = record { all = All-append IsLow xs ys p.all q.all }

same : (xs ys : List ℕ) → xs ≡ ys → Low ys → Low xs
same xs ys e low = subst Low (sym e) low

three : (b : ℕ) → IsLow b → (xs ys zs : List ℕ) → Low xs → Low ys → Low zs → Low (xs ++ b ∷ [] ++ ys ++ b ∷ [] ++ zs)
three b h xs ys zs p q r =
    both (xs ++ b ∷ [] ++ ys ++ b ∷ []) zs (both (xs ++ b ∷ [] ++ ys) (b ∷ []) (both (xs ++ b ∷ []) ys (both xs (b ∷ []) p (mark b h)) q)
    (mark b h)) r

dash : IsLow 45
dash = record { from_35 = omega arith; below_128 = omega arith; other = λ e. omega (arith, e) }

colon : IsLow 58
colon = record { from_35 = omega arith; below_128 = omega arith; other = λ e. omega (arith, e) }

letter_t : IsLow 84
letter_t = record { from_35 = omega arith; below_128 = omega arith; other = λ e. omega (arith, e) }

stop : IsLow 46
stop = record { from_35 = omega arith; below_128 = omega arith; other = λ e. omega (arith, e) }

letter_z : IsLow 90
letter_z = record { from_35 = omega arith; below_128 = omega arith; other = λ e. omega (arith, e) }

low_date : (text : List ℕ) (n : ℕ) → IsDateText text n → Low text
low_date text n d =
    same text _ d.spelling (three 45 dash (digits 4 d.year) (digits 2 d.month) (digits 2 d.day) (low_digits 4 d.year) (low_digits 2 d.month)
    (low_digits 2 d.day))

low_clock : (text : List ℕ) (n : ℕ) → IsClockText text n → Low text
low_clock text n k =
    same text _ k.spelling (three 58 colon (digits 2 (n / 3600)) (digits 2 (n / 60 % 60)) (digits 2 (n % 60)) (low_digits 2 (n / 3600))
    (low_digits 2 (n / 60 % 60)) (low_digits 2 (n % 60)))

low_second : (text : List ℕ) (n : ℕ) → IsSecondText text n → Low text
low_second text n s =
    same text _ s.spelling (both s.date (84 ∷ s.clock) (low_date s.date (n / 86400) s.is_date)
    (both (84 ∷ []) s.clock (mark 84 letter_t) (low_clock s.clock (n % 86400) s.is_clock)))

low_datetime : (text : List ℕ) (t : ℕ) → IsDatetime text t → Low text
low_datetime text t is =
    let fraction = both (46 ∷ []) (digits 3 (t % 1000)) (mark 46 stop) (low_digits 3 (t % 1000)) in
    let rest = both (46 ∷ digits 3 (t % 1000)) (90 ∷ []) fraction (mark 90 letter_z) in
    same text _ is.spelling (both is.front _ (low_second is.front (t / 1000) is.is_front) rest)

pub datetime_utf8 : (text : List ℕ) (t : ℕ) → IsDatetime text t → IsUtf8 text
datetime_utf8 text t is = utf8_of text (low_datetime text t is)

-- ---- in JSON they stand as they are
tail_low : (b : ℕ) (bs : List ℕ) → Low (b ∷ bs) → Low bs
tail_low b bs low = record { all = λ i d h. low.all (suc i) d (omega (arith, h)) }

as_it_is : (bs : List ℕ) → Low bs → escape bs ≡ bs
as_it_is [] low = refl
as_it_is (b ∷ bs) low =
    let first : IsLow b = All-get_or IsLow (b ∷ bs) 0 0 (omega arith) low.all in
    let byte = escape_byte_plain b (λ e. omega (arith, first.from_35, e)) first.other (omega (arith, first.from_35)) in
    rw (byte, as_it_is bs (tail_low b bs low))

pub id_as_it_is : (text : List ℕ) → IsId text → escape text ≡ text
id_as_it_is text is = as_it_is text (low_id text is)

pub datetime_as_it_is : (text : List ℕ) (t : ℕ) → IsDatetime text t → escape text ≡ text
datetime_as_it_is text t is = as_it_is text (low_datetime text t is)
