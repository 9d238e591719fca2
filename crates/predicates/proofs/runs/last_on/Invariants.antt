use Rattle.std.proofs.Common.{ℕ, ◌+◌, ◌<◌, ◌≤◌}
use Rattle.tpoint.specs.Places.{EachAt}
use Rattle.tpoint.specs.declared.point.Point.{Point}
use Rattle.predicates.specs.Ends.{IsOn}
use Rattle.predicates.proofs.runs.last_on.Given as goal

-- the points so far are on the side, and in time
abbrev pub invariant-loop-k : goal.invariant-loop-k
invariant-loop-k l =
    ((j : ℕ) → l.from ≤ j → j < l.k → EachAt l.points (λ (p : Point). IsOn l.side p l.area) j)
    × ((j : ℕ) → l.from + 1 ≤ j → j < l.k → EachAt l.points (λ (p : Point). p.t ≤ l.end) j)
