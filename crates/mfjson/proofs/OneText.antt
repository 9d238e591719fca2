-- A text is of one instant, and an instant has one datetime text.
use Rattle.std.proofs.Common.{◌≡◌, ℕ, pos, ◌/◌, List, arith, sym, ◌∙◌, inl, inr}
use Rattle.jiff_core.specs.Calendar.{IsCivilDate}
use Rattle.jiff_core.specs.declared.civil.date.Date.{Date}
use Rattle.jiff_core.proofs.DateLemmas.{epoch_day_injective}
use Rattle.mfjson.specs.Datetime.{IsDateText, IsClockText, IsSecondText, IsDatetime, ReadsAs}
use Rattle.mfjson.proofs.DigitsLemmas.{number_unique}
use Rattle.mfjson.proofs.ThreeNumbers.{numbers_unique}
use Rattle.mfjson.proofs.ClockTexts.{clock_numbers}
use Rattle.mfjson.proofs.DateTexts.{date_numbers, is_civil}
use Rattle.mfjson.proofs.SecondTexts.{second_parts, long_parts, short_parts, of_24, of_20}

-- ---- a text is of one instant
date_of_one : (text : List ℕ) (m n : ℕ) → IsDateText text m → IsDateText text n → m ≡ n
date_of_one text m n a b =
    let same : pos m ≡ pos n = sym a.day_number ∙ (is_civil text a.year a.month a.day (date_numbers text m a) n b).1 in cc

clock_of_one : (text : List ℕ) (m n : ℕ) → IsClockText text m → IsClockText text n → m ≡ n
clock_of_one text m n a b =
    let same = numbers_unique (clock_numbers text m a) (clock_numbers text n b) in
    omega (arith, same.first, same.second, same.third)

second_of_one : (text : List ℕ) (m n : ℕ) → IsSecondText text m → IsSecondText text n → m ≡ n
second_of_one text m n a b =
    let p = second_parts text m a in
    let q = second_parts text n b in
    omega (arith, date_of_one _ _ _ p.date q.date, clock_of_one _ _ _ p.clock q.clock)

pub instant_of_one : (text : List ℕ) (t u : ℕ) → ReadsAs text t → ReadsAs text u → t ≡ u
instant_of_one text t u (inl a) b =
    let p = long_parts text t a in
    let q = of_24 text u p.long b in
    omega (arith, second_of_one _ _ _ p.front q.front, number_unique _ _ _ p.milli q.milli)
instant_of_one text t u (inr a) b =
    let p = short_parts text t a in
    let q = of_20 text u p.long b in
    omega (arith, second_of_one _ _ _ p.front q.front, p.milli, q.milli)

-- ---- an instant has one datetime text
as_date : (year month day : ℕ) → IsCivilDate (pos year) month day → Date
as_date year month day c =
    record { year = pos year; month = month; day = day; year_in = c.0; month_in = c.1; day_in = c.2 }

date_text_one : (a b : List ℕ) (n : ℕ) → IsDateText a n → IsDateText b n → a ≡ b
unfolding as_date
date_text_one a b n p q =
    let d = as_date p.year p.month p.day p.date in
    let e = as_date q.year q.month q.day q.date in
    let same = epoch_day_injective d e (p.day_number ∙ sym q.day_number) in
    let years : p.year ≡ q.year = let y : pos p.year ≡ pos q.year = same.0 in cc in
    p.spelling ∙ rw (years, same.1, same.2) (sym q.spelling)

second_text_one : (a b : List ℕ) (n : ℕ) → IsSecondText a n → IsSecondText b n → a ≡ b
second_text_one a b n p q =
    let clocks : p.clock ≡ q.clock = p.is_clock.spelling ∙ sym q.is_clock.spelling in
    p.spelling ∙ rw (date_text_one p.date q.date (n / 86400) p.is_date q.is_date, clocks) (sym q.spelling)

pub datetime_one : (a b : List ℕ) (t : ℕ) → IsDatetime a t → IsDatetime b t → a ≡ b
datetime_one a b t p q =
    p.spelling ∙ rw (second_text_one p.front q.front (t / 1000) p.is_front q.is_front) (sym q.spelling)
