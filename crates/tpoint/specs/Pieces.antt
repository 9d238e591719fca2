-- The pieces of a sequence, one for each listed point, without the rest of its list.
use Rattle.std.specs.Prelude.{ℕ, List, map}
use Rattle.tpoint.specs.Fraction.{Fraction, ◌≈◌, ◌≤ᶠ◌, ◌<ᶠ◌}
use Rattle.tpoint.specs.Moving.{Position, IsPositionOf, moment, vertex, AtPlace}
use Rattle.tpoint.specs.declared.interp.Interp.{Interp}
use Rattle.tpoint.specs.declared.point.Point.{Point}

abbrev pub place : Point → Position
place p = (vertex p).place

-- a point at its own instant alone
pub record AtPoint (p : Point) (t : Fraction) (v : Position) : Type 0 where
  pub then : t ≈ moment p.t
  pub there : IsPositionOf v (place p)

-- a point from its instant until the next
pub record HeldUntil (p q : Point) (t : Fraction) (v : Position) : Type 0 where
  pub reached : moment p.t ≤ᶠ t
  pub not_left : t <ᶠ moment q.t
  pub there : IsPositionOf v (place p)

-- the piece at i of a list of points
abbrev pub OnPiece : Interp → List Point → ℕ → Fraction → Position → Type 0
OnPiece interp points i t v = AtPlace interp (map vertex points) i t v
