-- The numbers of two points and a rectangle, as they are passed to a call: written to 64 bits, and read back.
use Rattle.std.proofs.Common.{◌≡◌, ℤ, SFits, to_z, of_z, arith, sym, subst}
use Rattle.std.proofs.lemmas.Int.{ints, to_z-of_z}
use mir.Syntax.{w64}
use Rattle.tpoint.specs.Coordinates.{InRange}
use Rattle.tpoint.specs.Moving.{InBounds}
use Rattle.tpoint.specs.Extents.{Area, IsArea}
use Rattle.tpoint.specs.declared.point.Point.{Point}
use Rattle.predicates.specs.Windows.{AreNear}

-- they fit, so that each is read as it was written
pub record NumbersFit (a b : Point) (r : Area) : Type 0 where
  pub ax : SFits w64 a.x
  pub bx : SFits w64 b.x
  pub ay : SFits w64 a.y
  pub by : SFits w64 b.y
  pub x0 : SFits w64 r.x0
  pub x1 : SFits w64 r.x1
  pub y0 : SFits w64 r.y0
  pub y1 : SFits w64 r.y1

coordinate_fits : (z : ℤ) → InRange z → SFits w64 z
coordinate_fits z h = omega (arith, ints, h)

pub numbers_fit : (a b : Point) (r : Area) → InBounds a → InBounds b → IsArea r → NumbersFit a b r
numbers_fit a b r p q s =
    record {
      ax = coordinate_fits a.x p.x_fits;
      bx = coordinate_fits b.x q.x_fits;
      ay = coordinate_fits a.y p.y_fits;
      by = coordinate_fits b.y q.y_fits;
      x0 = coordinate_fits r.x0 s.x0_fits;
      x1 = coordinate_fits r.x1 s.x1_fits;
      y0 = coordinate_fits r.y0 s.y0_fits;
      y1 = coordinate_fits r.y1 s.y1_fits;
    }

-- what a function is handed of a number in range is in range
pub number_passed : (z : ℤ) → InRange z → InRange (to_z w64 (of_z w64 z))
number_passed z h = subst InRange (sym (to_z-of_z w64 z (coordinate_fits z h))) h

pub bound_passed : (z y : ℤ) → z ≡ y → InRange y → InRange (to_z w64 (of_z w64 z))
bound_passed z y same h = number_passed z (subst InRange (sym same) h)

near : (from to bound : ℤ) → InRange from → InRange to → InRange bound → AreNear from to bound
near from to bound f t b = record { way = omega (arith, ints); begin = omega (arith, ints); end = omega (arith, ints) }

pub near_passed : (from to bound : ℤ) → InRange from → InRange to → InRange bound →
    AreNear (to_z w64 (of_z w64 from)) (to_z w64 (of_z w64 to)) (to_z w64 (of_z w64 bound))
near_passed from to bound f t b = near _ _ _ (number_passed from f) (number_passed to t) (number_passed bound b)
