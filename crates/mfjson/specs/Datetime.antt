-- The texts of an instant, a profile of RFC 3339.
use Rattle.std.specs.Prelude.{◌≡◌, ◌⊎◌, ℕ, ◌/◌, ◌%◌, ◌<◌, List, [], ◌++◌, codes, pos}
use Rattle.jiff_core.specs.Calendar.{IsCivilDate, days_from_civil}
use Rattle.mfjson.specs.Digits.{digits}

-- YYYY-MM-DD
abbrev pub date_text : ℕ → ℕ → ℕ → List ℕ
date_text year month day =
    digits 4 year ++ codes "-" ++ digits 2 month ++ codes "-" ++ digits 2 day

-- a second of the day, as hh:mm:ss
abbrev pub clock_text : ℕ → List ℕ
clock_text second =
    let hour = second / 3600 in
    let minute = second / 60 % 60 in
    digits 2 hour ++ codes ":" ++ digits 2 minute ++ codes ":" ++ digits 2 (second % 60)

-- the text is the calendar's date of this day, counted from 1970-01-01
pub record IsDateText (text : List ℕ) (number : ℕ) : Type 0 where
  pub year : ℕ
  pub month : ℕ
  pub day : ℕ
  pub date : IsCivilDate (pos year) month day
  pub day_number : days_from_civil (pos year) month day ≡ pos number
  pub spelling : text ≡ date_text year month day

-- the text is this second of the day
pub record IsClockText (text : List ℕ) (second : ℕ) : Type 0 where
  pub in_a_day : second < 86400
  pub spelling : text ≡ clock_text second

-- the text is this second, counted from 1970-01-01T00:00:00: a date, T and a time of that day
pub record IsSecondText (text : List ℕ) (second : ℕ) : Type 0 where
  pub date : List ℕ
  pub clock : List ℕ
  pub is_date : IsDateText date (second / 86400)
  pub is_clock : IsClockText clock (second % 86400)
  pub spelling : text ≡ date ++ (codes "T" ++ clock)

-- the text is the instant's second, then a text of its milliseconds and Z
pub record IsSpelled (text : List ℕ) (t : ℕ) (fraction : List ℕ) : Type 0 where
  pub front : List ℕ
  pub is_front : IsSecondText front (t / 1000)
  pub spelling : text ≡ front ++ (fraction ++ codes "Z")

-- the datetime text of the instant t: YYYY-MM-DDThh:mm:ss.fffZ
abbrev pub IsDatetime : List ℕ → ℕ → Type 0
IsDatetime text t = IsSpelled text t (codes "." ++ digits 3 (t % 1000))

-- the text of a whole second may leave out the fraction
pub record IsShortDatetime (text : List ℕ) (t : ℕ) : Type 0 where
  pub whole_second : t % 1000 ≡ 0
  pub spelling : IsSpelled text t []

-- the text may be read as the instant t
abbrev pub ReadsAs : List ℕ → ℕ → Type 0
ReadsAs text t = IsDatetime text t ⊎ IsShortDatetime text t
