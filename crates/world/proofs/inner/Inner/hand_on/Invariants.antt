use Rattle.std.proofs.Common.{◌≤◌, length}
use Rattle.stable.specs.Storages.{scripted}
use Rattle.world_model.specs.Rounds.{DeliversTo}
use Rattle.world.specs.Inner.{inner_of}
use Rattle.world.proofs.inner.Inner.hand_on.Given as goal

abbrev pub invariant-loop-index : goal.invariant-loop-index
invariant-loop-index g l =
    DeliversTo (scripted g.S.Stable) l.receivers (inner_of l.initial.self) l.first l.index (inner_of l.self)
    × (length (inner_of l.initial.self).frames ≤ length (inner_of l.self).frames)
