use Rattle.std.proofs.Common.{ℕ, ◌<◌}
use Rattle.tpoint.specs.Places.{EachAt}
use Rattle.store.specs.Bounds.{Holds}
use Rattle.store.proofs.bounds.Bounds.of.Given as goal

-- the points so far lie between the bounds
abbrev pub invariant-loop-k : goal.invariant-loop-k
invariant-loop-k l = (j : ℕ) → j < l.k → EachAt l.points (Holds l.bounds) j
