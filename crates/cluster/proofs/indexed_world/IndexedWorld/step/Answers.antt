use Rattle.stable.specs.Memory.{in_memory}
use Rattle.stable.specs.Storages.{scripted}
use Rattle.world.specs.Seen.{world_of}
use Rattle.cluster.proofs.Indexing.{stepped_index}
use Rattle.cluster.proofs.indexed_world.IndexedWorld.step.Goals as goal

-- frames are never taken back
pub invariant_of-self : goal.invariant_of-self
invariant_of-self c = record {
  exact = stepped_index (scripted in_memory) (world_of c.args.self.now.world) (world_of c.step.new.self) c.args.event c.step.result
      c.args.self.now.numbers c.args.self.now.indexed c.step.ensures.steps c.step.ensures.err c.args.self.now.exact;
}
