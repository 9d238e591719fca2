use Rattle.std.proofs.Common.{◌<◌, List}
use Rattle.stable.specs.Memory.{in_memory}
use Rattle.stable.specs.Storages.{scripted}
use Rattle.cluster.specs.ClusterViews.{pumped_of}
use Rattle.cluster.specs.Clusters.{HasPassed}
use Rattle.cluster.specs.Passages.{Passage}
use Rattle.cluster.specs.Pumps.{PollsBelow}
use Rattle.cluster.proofs.cluster.Cluster.pass.Given as goal

abbrev pub invariant-loop-number : goal.invariant-loop-number
invariant-loop-number g l =
    (l.made < l.left)
    × ((passed : List Passage) × PollsBelow (scripted in_memory) (pumped_of l.initial.self) l.number passed l.made (pumped_of l.self)
    × HasPassed g.T.Transport l.initial.self.transport passed l.self.transport)
