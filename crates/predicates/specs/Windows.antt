-- The parameters of a leg: 0 at its begin, 1 at its end.
use Rattle.std.specs.Prelude.{Bool, ℤ, pos, ◌-ℤ◌, ◌^◌, ◌<◌, Option, MatchOption, unsigned_abs, ◌↔◌}
use Rattle.tpoint.specs.Fraction.{Fraction, ◌≤ᶠ◌, whole}
use Rattle.tpoint.specs.Ways.{way}
use Rattle.tpoint.specs.Moving.{Position}
use Rattle.tpoint.specs.Extents.{Span, LiesIn}
use Rattle.tpoint.specs.declared.point.Point.{Point}
use Rattle.tpoint.specs.Extents.{Before}
use Rattle.predicates.specs.Bounds.{parameter}
use Rattle.predicates.specs.declared.windows.Window.{Window}

pub record InLeg (u : Fraction) : Type 0 where
  pub from : whole (pos 0) ≤ᶠ u
  pub to : u ≤ᶠ whole (pos 1)

-- a parameter lies in a window
pub record InWindow (u : Fraction) (w : Window) : Type 0 where
  pub from : Before w.low.counts (parameter w.low) u
  pub to : Before w.high.counts u (parameter w.high)

-- a margin is on the inner side of a bound: positive, or 0 where the bound counts
abbrev pub IsInner : Bool → Fraction → Type 0
IsInner counts margin = Before counts (whole (pos 0)) margin

-- two numbers on the way between which one goes, and a bound, are so near to each other that products of their distances fit
pub record AreNear (from to bound : ℤ) : Type 0 where
  pub way : unsigned_abs (to -ℤ from) < 2 ^ 48
  pub begin : unsigned_abs (from -ℤ bound) < 2 ^ 48
  pub end : unsigned_abs (to -ℤ bound) < 2 ^ 48

-- the window has exactly the parameters with a property; no window: none has it
abbrev pub IsWindowOf : Option Window → (Fraction → Type 0) → Type 0
IsWindowOf o P = MatchOption o ((u : Fraction) → ¬ P u) (λ w. (u : Fraction) → InWindow u w ↔ P u)

-- a property holds somewhere in a window, or everywhere
pub record SomeIn (w : Window) (P : Fraction → Type 0) : Type 0 where
  pub at : Fraction
  pub in_window : InWindow at w
  pub holds : P at

pub record EveryIn (w : Window) (P : Fraction → Type 0) : Type 0 where
  pub holds : (u : Fraction) → InWindow u w → P u

-- a leg's instant and its position at the parameter u
abbrev pub instant_at : Point → Point → Fraction → Fraction
instant_at a b u = way (pos a.t) (pos b.t) u

abbrev pub place_at : Point → Point → Fraction → Position
place_at a b u = record { x = way a.x b.x u; y = way a.y b.y u }

-- the parameters of a leg at which its instant lies in a period
pub record InTime (a b : Point) (p : Span) (u : Fraction) : Type 0 where
  pub in_leg : InLeg u
  pub in_period : LiesIn (instant_at a b u) p
