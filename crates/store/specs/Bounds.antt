-- Rectangles round listed positions.
use Rattle.std.specs.Prelude.{ℕ, ℤ, List, ◌≤ℤ◌, ◌<ℤ◌, ◌⊎◌}
use Rattle.tpoint.specs.Fraction.{Fraction}
use Rattle.tpoint.specs.Moving.{Position, Sequence, At}
use Rattle.tpoint.specs.Places.{EachAt}
use Rattle.tpoint.specs.Extents.{Area, Inside}
use Rattle.tpoint.specs.declared.point.Point.{Point}
use Rattle.store.specs.declared.bounds.Bounds.{Bounds}

-- a listed position lies between the bounds
pub record Holds (b : Bounds) (p : Point) : Type 0 where
  pub from_x : b.x0 ≤ℤ p.x
  pub to_x : p.x ≤ℤ b.x1
  pub from_y : b.y0 ≤ℤ p.y
  pub to_y : p.y ≤ℤ b.y1

-- all of a list do
pub record HoldsAll (b : Bounds) (ps : List Point) : Type 0 where
  pub each : (k : ℕ) → EachAt ps (Holds b) k

-- bounds are within others
pub record IsWithin (b c : Bounds) : Type 0 where
  pub from_x : c.x0 ≤ℤ b.x0
  pub to_x : b.x1 ≤ℤ c.x1
  pub from_y : c.y0 ≤ℤ b.y0
  pub to_y : b.y1 ≤ℤ c.y1

-- no number is between two bounds and between two others
abbrev pub AreApart : ℤ → ℤ → ℤ → ℤ → Type 0
AreApart low high from to = (high <ℤ from) ⊎ (to <ℤ low)

-- bounds have nothing in common with a rectangle
abbrev pub IsApart : Bounds → Area → Type 0
IsApart b r = AreApart b.x0 b.x1 r.x0 r.x1 ⊎ AreApart b.y0 b.y1 r.y0 r.y1

-- two numbers lie between two others, both of which count
abbrev pub AreBetween : ℤ → ℤ → ℤ → ℤ → Type 0
AreBetween low high from to = (from ≤ℤ low) × (high ≤ℤ to)

-- a rectangle has all that is between bounds
abbrev pub IsInside : Bounds → Area → Type 0
IsInside b r = AreBetween b.x0 b.x1 r.x0 r.x1 × AreBetween b.y0 b.y1 r.y0 r.y1

-- a sequence has no value in a rectangle, at any instant, whole or fractional
pub record StaysOutOf (s : Sequence) (r : Area) : Type 0 where
  pub outside : (t : Fraction) (v : Position) → At s t v → ¬ Inside v r

-- it has no value elsewhere
pub record StaysIn (s : Sequence) (r : Area) : Type 0 where
  pub inside : (t : Fraction) (v : Position) → At s t v → Inside v r
