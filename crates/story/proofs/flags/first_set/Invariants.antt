use Rattle.std.proofs.Common.{◌-◌, ◌≤◌, length}
use Rattle.world_model.specs.Waiting.{NoneWaitsBelow}
use Rattle.story.proofs.flags.first_set.Given as goal

abbrev pub invariant-loop-index : goal.invariant-loop-index
invariant-loop-index l = record {
  none_below : NoneWaitsBelow l.flags l.index;
  within : l.index ≤ length l.flags;
}

abbrev pub decreases-loop-index : goal.decreases-loop-index
decreases-loop-index l = length l.flags - l.index
