use Rattle.std.proofs.Common.{ℕ, ◌<◌}
use Rattle.tpoint.specs.Moving.{Rises}
use Rattle.tpoint.proofs.seq.first_fall.Given as goal

abbrev pub invariant-loop-k : goal.invariant-loop-k
invariant-loop-k l = (k : ℕ) → k < l.k → Rises l.points k
