-- Instants in a list, each later than the one before.
use Rattle.std.specs.Prelude.{ℕ, ◌<◌, ◌≤◌, List, length, map, AllPairs}
use Rattle.tpoint.specs.declared.point.Point.{Point}
use Rattle.tpoint.specs.declared.seq.TheConstants.{MOST_POINTS}

-- a list of instants that can be searched
pub record IsListed (ts : List ℕ) : Type 0 where
  pub ascending : AllPairs (λ (s t : ℕ). s < t) ts
  pub not_too_many : length ts ≤ MOST_POINTS

-- the instants of points
abbrev pub instants_of : List Point → List ℕ
instants_of ps = map (λ (p : Point). p.t) ps
