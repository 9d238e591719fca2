-- Charts, and where a position is drawn on one.
use Rattle.std.specs.Prelude.{◌≡◌, ℕ, ◌+◌, ◌*◌, ◌≤◌, ℤ, pos, neg_ℤ, ◌+ℤ◌, ◌-ℤ◌, ◌*ℤ◌, ◌≤ℤ◌, ◌<ℤ◌}
use Rattle.tpoint.specs.Fraction.{Fraction}
use Rattle.tpoint.specs.Moving.{Position}
use Rattle.fleetmap.specs.declared.chart.TheConstants.{SIDE, FURTHEST_EDGE, LONGEST_SPAN}
use Rattle.fleetmap.specs.declared.spot.Spot.{Spot}

-- a square of the ground, from its least coordinates on, in millimetres
pub record Square : Type 0 where
  pub west : ℤ
  pub south : ℤ
  pub span : ℕ

-- it has an extent, and is not far from where coordinates are
pub record IsSquare (s : Square) : Type 0 where
  pub west_from : neg_ℤ FURTHEST_EDGE ≤ℤ s.west
  pub west_to : s.west ≤ℤ FURTHEST_EDGE
  pub south_from : neg_ℤ FURTHEST_EDGE ≤ℤ s.south
  pub south_to : s.south ≤ℤ FURTHEST_EDGE
  pub not_empty : 1 ≤ s.span
  pub not_too_long : s.span ≤ LONGEST_SPAN

-- how far a coordinate is from an edge, in parts of its lower number
abbrev pub parts_from : ℤ → Fraction → ℤ
parts_from edge v = v.num -ℤ edge *ℤ pos v.den

-- it is at most a span beyond the edge
pub record IsWithin (edge : ℤ) (span : ℕ) (v : Fraction) : Type 0 where
  pub from : pos 0 ≤ℤ parts_from edge v
  pub to : parts_from edge v ≤ℤ pos (span * v.den)

-- a position lies in the square, edges included
pub record LiesOn (s : Square) (v : Position) : Type 0 where
  pub across : IsWithin s.west s.span v.x
  pub along : IsWithin s.south s.span v.y

-- z is the whole number nearest to (v - edge) SIDE / span, and of two the greater: z ≤ that + 1/2 < z + 1, by cross products
pub record IsNearest (edge : ℤ) (span : ℕ) (v : Fraction) (z : ℕ) : Type 0 where
  pub reached : pos (2 * z * (span * v.den)) ≤ℤ (pos (2 * SIDE) *ℤ parts_from edge v +ℤ pos (span * v.den))
  pub not_passed : (pos (2 * SIDE) *ℤ parts_from edge v +ℤ pos (span * v.den)) <ℤ pos ((2 * z + 2) * (span * v.den))

-- where a position of the square is drawn: in units of which `SIDE` are the square's side, each coordinate the nearest
pub record IsDrawnAt (s : Square) (v : Position) (spot : Spot) : Type 0 where
  pub across : IsNearest s.west s.span v.x spot.x
  pub along : IsNearest s.south s.span v.y spot.y
