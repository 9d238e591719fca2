use Rattle.std.specs.Prelude.{◌≡◌, None}
use Rattle.stable.specs.Memory.{in_memory}
use Rattle.stable.specs.Storages.{scripted}
use Rattle.world.specs.Seen.{world_of}
use Rattle.world_model.specs.Flushing.{Delivers}
use Rattle.schedule.specs.declared.action.Action.TheVariants.{Flush}
use Rattle.story.specs.Ledgers.{IsKept}
use Rattle.story.specs.Noting.{NotesLine}
use Rattle.story.proofs.ledger.Ledger.flush.Given as goal

-- so many frames have come, and each is noted
abbrev pub invariant-loop-delivered : goal.invariant-loop-delivered
invariant-loop-delivered l = record {
  kept : IsKept l.self;
  goes_on : l.self.fault ≡ None;
  lines : l.self.lines.items ≡ l.fn.self.lines.items;
  delivers : Delivers (scripted in_memory) (world_of l.fn.self.world) l.delivered (world_of l.self.world);
  noted : NotesLine (scripted in_memory) Flush None (world_of l.fn.self.world) l.fn.self.steps.items
      (world_of l.self.world) l.self.steps.items;
}
