use Rattle.std.proofs.Common.{ℕ, ◌*◌, ◌<◌, ◌-◌, vec_len}
use Rattle.tpoint.specs.Pieces.{OnPiece}
use Rattle.tpoint.specs.declared.interp.Interp.TheVariants.{Linear}
use Rattle.predicates.specs.Predicates.{SomeInside}
use Rattle.store.proofs.blocks.Blocks.enter.Given as goal

-- no leg so far is in the rectangle during the period
abbrev pub invariant-loop-block : goal.invariant-loop-block
invariant-loop-block l = (leg : ℕ) → leg < 32 * l.block → ¬ SomeInside (OnPiece Linear l.seq.points leg) l.period l.area

abbrev pub decreases-loop-block : goal.decreases-loop-block
decreases-loop-block l = vec_len l.self.bounds - l.block
