-- Coordinates.
use Rattle.std.specs.Prelude.{ℤ, neg_ℤ, ◌≤ℤ◌}
use Rattle.tpoint.specs.declared.coordinate.TheConstants.{FURTHEST}

-- whole millimetres that are a coordinate, or the bound of a rectangle
pub record InRange (z : ℤ) : Type 0 where
  pub least : neg_ℤ FURTHEST ≤ℤ z
  pub greatest : z ≤ℤ FURTHEST
