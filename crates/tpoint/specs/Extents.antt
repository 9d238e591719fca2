-- Periods of time and rectangles.
use Rattle.std.specs.Prelude.{◌≡◌, ℕ, ◌+◌, ◌-◌, ◌≤◌, ℤ, ◌≤ℤ◌, Bool, true, false, if◌then◌else◌}
use Rattle.tpoint.specs.Fraction.{Fraction, ◌≤ᶠ◌, ◌<ᶠ◌, whole}
use Rattle.tpoint.specs.Coordinates.{InRange}
use Rattle.tpoint.specs.Moving.{Position, moment}

-- ---- periods
-- a period, from an instant to an instant, each of which is in it or isn't
pub record Span : Type 0 where
  pub begin : ℕ
  pub end : ℕ
  pub begin_in : Bool
  pub end_in : Bool

-- the period with both of its ends
abbrev pub closed : ℕ → ℕ → Span
closed begin end = record { begin = begin; end = end; begin_in = true; end_in = true }

-- it has an instant: it begins before it ends, or is one instant, which is in it
pub record HasInstant (p : Span) : Type 0 where
  pub ordered : p.begin ≤ p.end
  pub one_instant : p.begin ≡ p.end → (p.begin_in ≡ true) × (p.end_in ≡ true)

-- a is before b, or is b where that counts
pub record Before (counts : Bool) (a b : Fraction) : Type 0 where
  pub not_after : a ≤ᶠ b
  pub apart : counts ≡ false → a <ᶠ b

-- an instant, whole or fractional, is in the period
pub record LiesIn (t : Fraction) (p : Span) : Type 0 where
  pub begun : Before p.begin_in (moment p.begin) t
  pub not_over : Before p.end_in t (moment p.end)

-- values, as a relation R between instants and positions, share an instant with the period
pub record Shares (R : Fraction → Position → Type 0) (p : Span) : Type 0 where
  pub t : Fraction
  pub v : Position
  pub in_period : LiesIn t p
  pub value : R t v

-- its whole instants are those from the one to the other
abbrev pub first_whole : Span → ℕ
first_whole p = if p.begin_in then p.begin else p.begin + 1

abbrev pub last_whole : Span → ℕ
last_whole p = if p.end_in then p.end else p.end - 1

-- ---- rectangles
-- a rectangle, bounds included
pub record Area : Type 0 where
  pub x0 : ℤ
  pub y0 : ℤ
  pub x1 : ℤ
  pub y1 : ℤ

-- its bounds are in range and in order
pub record IsArea (r : Area) : Type 0 where
  pub x0_fits : InRange r.x0
  pub y0_fits : InRange r.y0
  pub x1_fits : InRange r.x1
  pub y1_fits : InRange r.y1
  pub x_order : r.x0 ≤ℤ r.x1
  pub y_order : r.y0 ≤ℤ r.y1

-- a fraction lies between two whole numbers, both included
pub record Between (low high : ℤ) (v : Fraction) : Type 0 where
  pub from : whole low ≤ᶠ v
  pub to : v ≤ᶠ whole high

pub record Inside (v : Position) (r : Area) : Type 0 where
  pub across : Between r.x0 r.x1 v.x
  pub along : Between r.y0 r.y1 v.y
