use Rattle.std.proofs.Common.{◌≡◌}
use Rattle.world.specs.Seen.{world_of}
use Rattle.cluster.proofs.Clustering.{SendsTo}
use Rattle.cluster.proofs.cluster.Cluster.send_from.Given as goal

abbrev pub invariant-loop-index : goal.invariant-loop-index
invariant-loop-index g l =
    (l.self.indexed ≡ l.initial.self.indexed)
    × (l.self.strangers ≡ l.initial.self.strangers)
    × SendsTo g.T.Transport (world_of l.initial.self.indexed.world).frames l.first l.initial.self.transport l.index l.self.transport
