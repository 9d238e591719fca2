use Rattle.std.specs.Prelude.{◌≡◌, None}
use Rattle.std.specs.Vec.Iter.{into_iter_items, into_iter_len}
use Rattle.stable.specs.Memory.{in_memory}
use Rattle.stable.specs.Storages.{scripted}
use Rattle.world.specs.Seen.{world_of}
use Rattle.story.specs.Following.{AreNoted}
use Rattle.story.specs.Ledgers.{IsKept}
use Rattle.story.proofs.FollowLemmas.{AreTaken}
use Rattle.story.proofs.ledger.Ledger.do_lines.Given as goal

-- the lines that were taken are done and noted, and the others are left
abbrev pub invariant-loop-line : goal.invariant-loop-line
invariant-loop-line g l = record {
  kept : IsKept l.self;
  goes_on : l.self.fault ≡ None;
  taken : AreTaken (into_iter_items l.initial.line-iterator) l.yielded (into_iter_items l.line-iterator)
      (into_iter_len l.line-iterator);
  noted : AreNoted (scripted in_memory) l.fn.self.lines.items l.fn.self.steps.items (world_of l.fn.self.world) l.yielded
      l.self.lines.items l.self.steps.items None (world_of l.self.world);
}
