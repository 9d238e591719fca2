use Rattle.std.proofs.Common.{◌<◌, ◌≤◌, ◌-◌, ◌+◌, ◌*◌, List}
use Rattle.stable.specs.Memory.{in_memory}
use Rattle.stable.specs.Storages.{scripted}
use Rattle.cluster.specs.ClusterViews.{pumped_of}
use Rattle.cluster.specs.Clusters.{HasPassed}
use Rattle.cluster.specs.Passages.{Passage}
use Rattle.cluster.specs.Pumps.{Passes}
use Rattle.cluster.specs.declared.cluster.TheConstants.{MOST_IDLE_PASSES, MOST_PUMPED}
use Rattle.cluster.proofs.cluster.Cluster.passes.Given as goal

abbrev pub invariant-loop-idle : goal.invariant-loop-idle
invariant-loop-idle g l =
    (l.made < MOST_PUMPED)
    × (l.idle ≤ MOST_IDLE_PASSES)
    × ((passed : List Passage) × Passes (scripted in_memory) (pumped_of l.initial.self) l.idle passed l.made (pumped_of l.self)
    × HasPassed g.T.Transport l.initial.self.transport passed l.self.transport)

-- each pass makes a Deliver, of which there are so many, or is one more in a row that makes none
abbrev pub decreases-loop-idle : goal.decreases-loop-idle
decreases-loop-idle g l = (MOST_PUMPED - l.made) * 101 + (MOST_IDLE_PASSES - l.idle)
