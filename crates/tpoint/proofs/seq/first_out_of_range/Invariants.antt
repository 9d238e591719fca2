use Rattle.std.proofs.Common.{ℕ, ◌<◌}
use Rattle.tpoint.specs.Moving.{InBounds}
use Rattle.tpoint.specs.Places.{EachAt}
use Rattle.tpoint.proofs.seq.first_out_of_range.Given as goal

abbrev pub invariant-loop-k : goal.invariant-loop-k
invariant-loop-k l = (k : ℕ) → k < l.k → EachAt l.points InBounds k
