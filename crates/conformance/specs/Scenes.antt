-- The points of a moving point.
use Rattle.std.specs.Prelude.{◌≡◌, ℕ, ◌+◌, ◌*◌, ◌%◌, List, length, slice_get, Some, pos}
use Rattle.tpoint.specs.declared.point.Point.{Point}
use Rattle.conformance.specs.declared.timing.scene.TheConstants.{START, EVERY}

-- the point at a place: along the diagonal, every other one off it
abbrev pub fix : ℕ → Point
fix k = record { t = START + EVERY * k; x = pos (1000 * k); y = pos (1000 * k + 500 * (k % 2)) }

-- as many of them
pub record AreFixes (count : ℕ) (points : List Point) : Type 0 where
  pub size : length points ≡ count
  pub each : (k : ℕ) (p : Point) → slice_get points k ≡ Some p → p ≡ fix k
