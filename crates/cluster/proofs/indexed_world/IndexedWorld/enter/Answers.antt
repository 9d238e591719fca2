use Rattle.std.proofs.Common.{arith}
use Rattle.std.proofs.lemmas.Grind.{common_steps}
use Rattle.world.specs.Seen.{world_of}
use Rattle.cluster.specs.Indexes.{spellings}
use Rattle.cluster.proofs.Indexing.{new_indexes, same_indexes, not_there, entered_alone}
use Rattle.cluster.proofs.indexed_world.IndexedWorld.enter.Goals as goal

-- nothing was entered
pub invariant_of-self-in-Break-branch-2 : goal.invariant_of-self-in-Break-branch-2
invariant_of-self-in-Break-branch-2 c = record {
  exact = same_indexes (spellings (world_of c.args.self.now.world).frames) c.args.self.now.numbers c.insert.new.self c.args.self.now.indexed
      c.in_err-insert.ensures.err c.args.self.now.exact;
}

-- it is new
pub invariant_of-self-2 : goal.invariant_of-self-2
invariant_of-self-2 c = record {
  exact = new_indexes (spellings (world_of c.args.self.now.world).frames) c.args.self.now.numbers c.args.self.now.indexed
      c.args.self.now.exact c.in_ok-bytes.bytes.items c.insert.new.self c.in_ok-bytes.ensures
      (not_there _ c.contains_key.result c.contains_key.ensures c.if-contains_key.false)
      (entered_alone c.in_ok-bytes.bytes c.args.self.now.indexed c.args.self.now.numbers c.insert.new.self c.in_ok-insert.ensures.updates);
}

pub invariant_of-self : goal.invariant_of-self
invariant_of-self c = grind (arith, common_steps)
