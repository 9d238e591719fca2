use Rattle.stable.specs.Memory.{in_memory}
use Rattle.stable.specs.Storages.{scripted}
use Rattle.world.specs.Seen.{world_of}
use Rattle.cluster.proofs.Indexing.{round_index}
use Rattle.cluster.proofs.indexed_world.IndexedWorld.round.Goals as goal

-- frames are never taken back
pub invariant_of-self : goal.invariant_of-self
invariant_of-self c = record {
  exact = round_index (scripted in_memory) (world_of c.args.self.now.world) (world_of c.round.new.self) c.args.node c.args.members.now
      c.round.result c.args.self.now.numbers c.args.self.now.indexed c.round.ensures.ends c.round.ensures.unchanged
      c.round.ensures.memory c.round.ensures.faults c.args.self.now.exact;
}
