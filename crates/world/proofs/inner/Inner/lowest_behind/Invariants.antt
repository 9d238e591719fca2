use Rattle.std.proofs.Common.{ℕ, ◌<◌, Contains}
use Rattle.world_model.specs.Rounds.{IsBehind}
use Rattle.world.specs.Inner.{inner_of}
use Rattle.world.proofs.inner.Inner.lowest_behind.Given as goal

abbrev pub invariant-loop-number : goal.invariant-loop-number
invariant-loop-number g l = (m : ℕ) → m < l.number → Contains l.members m → IsBehind (inner_of l.self) l.node m → ⊥
