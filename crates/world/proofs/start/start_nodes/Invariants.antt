use Rattle.std.proofs.Common.{◌≡◌, ◌++◌, length, map}
use Rattle.std.specs.Vec.Iter.{into_iter_items, into_iter_len}
use Rattle.stable.specs.Storages.{scripted}
use Rattle.world_model.specs.Flushing.{HaveStarted}
use Rattle.world_model.specs.Starting.{AreOver}
use Rattle.node.specs.Seen.{state_of}
use Rattle.world.proofs.start.start_nodes.Given as goal

-- the storages that were taken have a node each, which has started over its own, and the others are left
abbrev pub invariant-loop-store : goal.invariant-loop-store
invariant-loop-store g l = record {
  parts : l.yielded ++ into_iter_items l.store-iterator ≡ into_iter_items l.initial.store-iterator;
  counted : into_iter_len l.store-iterator ≡ length (into_iter_items l.store-iterator);
  started : HaveStarted (scripted g.S.Stable) (length l.yielded) l.count (map state_of l.nodes.items);
  over : AreOver g.S.Stable l.yielded (map state_of l.nodes.items);
}
