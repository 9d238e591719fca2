use Rattle.std.proofs.Common.{ℕ, ◌<◌}
use Rattle.tpoint.specs.Moving.{Position, moment}
use Rattle.tpoint.specs.Pieces.{OnPiece}
use Rattle.tpoint.proofs.seq.Seq.value_at.Given as goal

abbrev pub invariant-loop-i : goal.invariant-loop-i
invariant-loop-i l = (j : ℕ) → j < l.i → (v : Position) → ¬ OnPiece l.interp l.points j (moment l.t) v
