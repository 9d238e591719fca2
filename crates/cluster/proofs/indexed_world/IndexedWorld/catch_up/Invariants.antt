use Rattle.std.proofs.Common.{◌≡◌}
use Rattle.world.specs.Seen.{world_of}
use Rattle.cluster.proofs.indexed_world.IndexedWorld.catch_up.Given as goal

abbrev pub invariant-loop-number : goal.invariant-loop-number
invariant-loop-number l = (world_of l.self.world ≡ world_of l.initial.self.world) × (l.self.indexed ≡ l._number)
