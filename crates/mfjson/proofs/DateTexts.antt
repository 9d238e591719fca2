-- The texts of a day.
use Rattle.std.proofs.Common.{◌≡◌, ℕ, pos, ◌^◌, ◌<◌, List, length, Some, ◌↔◌, subst, arith, ap, sym, ◌∙◌}
use Rattle.std.proofs.Common.{w8, w16}
use mir.Val.{to_z}
use Rattle.jiff_core.proofs.SignedLemmas.{signed_casts}
use Rattle.std.specs.List.{slice_range}
use Rattle.std.proofs.lemmas.Option.{same_Some}
use Rattle.jiff_core.specs.Calendar.{IsCivilDate, IsDate, days_from_civil}
use Rattle.jiff_core.proofs.CalendarLemmas.{days_in_month_bounds}
use Rattle.jiff_core.proofs.SignedLemmas.{signed_arith}
use Rattle.jiff_core.specs.declared.civil.date.Date.{Date}
use Rattle.jiff_core.specs.Date.{epoch_day, IsYmd}
use Rattle.mfjson.specs.Digits.{AreNumbers}
use Rattle.mfjson.specs.Datetime.{IsDateText}
use Rattle.mfjson.proofs.DigitsLemmas.{part_length}
use Rattle.mfjson.proofs.ThreeNumbers.{numbers_made, numbers_spelled, numbers_unique}

-- the three numbers of the text of a date
abbrev pub DateNumbers : List ℕ → ℕ → ℕ → ℕ → Type 0
DateNumbers text = AreNumbers 45 (slice_range text 0 4) (slice_range text 4 10)

year_bound : (year month day : ℕ) → IsCivilDate (pos year) month day → year < 10000
year_bound year month day c = let h = c.0.1 in omega (arith, signed_arith)

day_bound : (year month day : ℕ) → IsCivilDate (pos year) month day → day < 100
day_bound year month day c = omega (arith, c.2.1, days_in_month_bounds (pos year) month)

pub date_numbers : (text : List ℕ) (number : ℕ) → (is : IsDateText text number) →
    DateNumbers text is.year is.month is.day
date_numbers text number is =
    numbers_made 4 45 _ _ _ _ _ (ap (λ t. slice_range t 0 4) is.spelling) (ap (λ t. slice_range t 4 10) is.spelling)
    (year_bound is.year is.month is.day is.date) (omega (arith, is.date.1.1)) (day_bound is.year is.month is.day is.date)

-- it is a date of the calendar
pub is_civil : (text : List ℕ) (year month day : ℕ) → DateNumbers text year month day → (number : ℕ) →
    IsDateText text number → IsCivilDate (pos year) month day × (days_from_civil (pos year) month day ≡ pos number)
is_civil text year month day r number is =
    let s = numbers_unique r (date_numbers text number is) in
    rw (s.first, s.second, s.third) (is.date, is.day_number)

pub civil_is_date : (year month day : ℕ) → IsCivilDate (pos year) month day → IsDate (pos year) (pos month) (pos day)
civil_is_date year month day c = (
  c.0,
  (omega (arith, signed_arith, c.1.0), omega (arith, signed_arith, c.1.1)),
  (omega (arith, signed_arith, c.2.0), omega (arith, signed_arith, c.2.1)),
)

pub date_is_civil : (year month day : ℕ) → IsDate (pos year) (pos month) (pos day) → IsCivilDate (pos year) month day
date_is_civil year month day c = (
  c.0,
  (omega (arith, signed_arith, c.1.0), omega (arith, signed_arith, c.1.1)),
  (omega (arith, signed_arith, c.2.0), omega (arith, signed_arith, c.2.1)),
)

-- it is the text of this day alone
pub date_exact : (text : List ℕ) (year month day : ℕ) → length text ≡ 10 → DateNumbers text year month day →
    IsCivilDate (pos year) month day → (m : ℕ) → days_from_civil (pos year) month day ≡ pos m → (n : ℕ) →
    IsDateText text n ↔ (Some m ≡ Some n)
date_exact text year month day long r civil m e n = (
  λ is. let same : pos m ≡ pos n = sym e ∙ (is_civil text year month day r n is).1 in ap Some cc,
  λ s. record {
    year = year;
    month = month;
    day = day;
    date = civil;
    day_number = e
        ∙ ap pos (same_Some m n s);
    spelling = numbers_spelled 4 45 text year month day long r;
  },
)

pub date_of_one_day : (text : List ℕ) (day : ℕ) → IsDateText text day → (n : ℕ) → IsDateText text n ↔ (Some day ≡ Some n)
date_of_one_day text day is n = (
  λ other.
      let same : pos day ≡ pos n =
      sym is.day_number ∙ (is_civil text is.year is.month is.day (date_numbers text day is) n other).1 in
      ap Some cc,
  λ e. subst (IsDateText text) (same_Some day n e) is,
)

-- ---- what the code casts
pub year_cast : (n : ℕ) → n < 10000 → to_z w16 n ≡ pos n
year_cast n h = omega (arith, signed_casts, h)

pub part_cast : (n : ℕ) → n < 100 → to_z w8 n ≡ pos n
part_cast n h = omega (arith, signed_casts, h)

pub record IsSmall (year month day : ℕ) : Type 0 where
  pub years : year < 10000
  pub months : month < 100
  pub days : day < 100

pub small_numbers : (text : List ℕ) (year month day : ℕ) → length text ≡ 10 →
    (year < 10 ^ length (slice_range text 0 4)) × (month < 100) × (day < 100) → IsSmall year month day
small_numbers text year month day long fit =
    record {
      years = subst (λ k. year < 10 ^ k) (part_length text 0 4 (omega arith) (omega arith)) fit.0;
      months = fit.1;
      days = fit.2;
    }

-- the numbers that the calendar is asked with
pub asked : (year month day : ℕ) → IsSmall year month day → IsCivilDate (pos year) month day →
    IsDate (to_z w16 year) (to_z w8 month) (to_z w8 day)
asked year month day s civil = rw (year_cast year s.years, part_cast month s.months, part_cast day s.days)
    (civil_is_date year month day civil)

pub answered : (year month day : ℕ) → IsSmall year month day → IsDate (to_z w16 year) (to_z w8 month) (to_z w8 day) →
    IsCivilDate (pos year) month day
answered year month day s is =
    date_is_civil year month day (rw (year_cast year s.years, part_cast month s.months, part_cast day s.days) at is)

pub day_of : (date : Date) (year month day : ℕ) → IsSmall year month day →
    IsYmd (to_z w16 year) (to_z w8 month) (to_z w8 day) date → epoch_day date ≡ days_from_civil (pos year) month day
day_of date year month day s is =
    let y : date.year ≡ pos year = is.0 ∙ year_cast year s.years in
    let m : pos date.month ≡ pos month = is.1 ∙ part_cast month s.months in
    let d : pos date.day ≡ pos day = is.2 ∙ part_cast day s.days in
    let month_is : date.month ≡ month = cc in
    let day_is : date.day ≡ day = cc in
    rw (y, month_is, day_is)
