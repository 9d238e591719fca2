-- Periods and rectangles as words.
use Rattle.std.specs.Prelude.{◌≡◌, ◌⊎◌, ℕ, List, [], ◌++◌, codes, Bool, true, false}
use Rattle.mfjson.specs.Datetime.{ReadsAs}
use Rattle.tpoint.specs.Extents.{Span, HasInstant, Area, IsArea}
use Rattle.schedule.specs.Numbers.{IsCoordinate}

-- ---- periods
-- a mark before a period's begin says whether the begin is in the period; without one it is
abbrev pub Opens : List ℕ → Bool → Type 0
Opens mark true = (mark ≡ []) ⊎ (mark ≡ codes "[")
Opens mark false = mark ≡ codes "("

-- a mark behind its end, likewise
abbrev pub Closes : List ℕ → Bool → Type 0
Closes mark true = (mark ≡ []) ⊎ (mark ≡ codes "]")
Closes mark false = mark ≡ codes ")"

-- the word of a begin: a datetime behind a mark
pub record IsBegin (word : List ℕ) (t : ℕ) (is_in : Bool) : Type 0 where
  pub mark : List ℕ
  pub text : List ℕ
  pub spelling : word ≡ mark ++ text
  pub opens : Opens mark is_in
  pub reads : ReadsAs text t

-- the word of an end: a datetime before a mark
pub record IsEnd (word : List ℕ) (t : ℕ) (is_in : Bool) : Type 0 where
  pub mark : List ℕ
  pub text : List ℕ
  pub spelling : word ≡ text ++ mark
  pub closes : Closes mark is_in
  pub reads : ReadsAs text t

-- a begin and an end are a period where it has an instant
pub record IsPeriod (begin end : List ℕ) (period : Span) : Type 0 where
  pub begins : IsBegin begin period.begin period.begin_in
  pub ends : IsEnd end period.end period.end_in
  pub has_instant : HasInstant period

-- ---- rectangles
-- four bounds are a rectangle: its lower x and y, then its upper ones
pub record IsRect (x0 y0 x1 y1 : List ℕ) (rect : Area) : Type 0 where
  pub left : IsCoordinate x0 rect.x0
  pub bottom : IsCoordinate y0 rect.y0
  pub right : IsCoordinate x1 rect.x1
  pub top : IsCoordinate y1 rect.y1
  pub in_order : IsArea rect
