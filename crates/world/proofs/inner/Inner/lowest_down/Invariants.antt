use Rattle.std.proofs.Common.{◌≡◌, ℕ, ◌<◌, true, Contains}
use Rattle.world_model.specs.Rounds.{is_up}
use Rattle.world.specs.Inner.{inner_of}
use Rattle.world.proofs.inner.Inner.lowest_down.Given as goal

abbrev pub invariant-loop-number : goal.invariant-loop-number
invariant-loop-number g l = (m : ℕ) → m < l.number → Contains l.members m → is_up (inner_of l.self) m ≡ true
