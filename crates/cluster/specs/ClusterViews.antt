-- What a cluster is seen as.
use Rattle.stable.specs.declared.memory.MemStable.{MemStable}
use Rattle.world.specs.Seen.{world_of}
use Rattle.world_model.specs.Worlds.{WorldState}
use Rattle.cluster.specs.Clusters.{ClusterState, Pumped}
use Rattle.cluster.specs.declared.cluster.Cluster.{Cluster}

abbrev pub pumped_of : {T : Type 0} → Cluster T → Pumped MemStable
pumped_of c = record { world = world_of c.indexed.world; strangers = c.strangers }

abbrev pub cluster_of : {T : Type 0} → Cluster T → ClusterState MemStable T
cluster_of c = record { pumped = pumped_of c; transport = c.transport }

-- its world
abbrev pub world_in : {T : Type 0} → Cluster T → WorldState MemStable
world_in c = world_of c.indexed.world
