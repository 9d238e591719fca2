-- A coordinate's way as the distance that it has gone, and a leg that passes through a rectangle.
use Rattle.std.specs.Prelude.{ℤ, pos, ◌^◌, ◌<◌, ◌≤ℤ◌, ◌↔◌, unsigned_abs}
use Rattle.tpoint.specs.Fraction.{Fraction}
use Rattle.tpoint.specs.Ways.{way}
use Rattle.tpoint.specs.Extents.{Area, Between, Inside}
use Rattle.tpoint.specs.declared.point.Point.{Point}
use Rattle.predicates.specs.Windows.{InLeg, place_at}
use Rattle.predicates.specs.declared.courses.Course.{Course}

-- the leg is in the rectangle at some parameter
pub record Crosses (a b : Point) (r : Area) : Type 0 where
  pub at : Fraction
  pub in_leg : InLeg at
  pub inside : Inside (place_at a b at) r

-- the number on its way is between the bounds where the distance gone is from `enter` to `leave`; it
-- doesn't enter after its end, nor leave before its begin
pub record IsCourse (from to low high : ℤ) (c : Course) : Type 0 where
  pub forward : pos 0 ≤ℤ c.length
  pub enters : c.enter ≤ℤ c.length
  pub leaves : pos 0 ≤ℤ c.leave
  pub order : c.enter ≤ℤ c.leave
  pub between : (u : Fraction) →
      Between low high (way from to u) ↔ Between c.enter c.leave (way (pos 0) c.length u)

-- its numbers have few digits, so that the products of two fit 128 bits
pub record CourseIsSmall (c : Course) : Type 0 where
  pub length : unsigned_abs c.length < 2 ^ 48
  pub enter : unsigned_abs c.enter < 2 ^ 48
  pub leave : unsigned_abs c.leave < 2 ^ 48
