use Rattle.std.proofs.Common.{◌≡◌}
use Rattle.story.specs.declared.entries.Entry.TheVariants.{Learnt}
use Rattle.story.specs.Telling.{Follow}
use Rattle.story.proofs.entries.Listing.list_learnt.Given as goal

abbrev pub invariant-loop-index : goal.invariant-loop-index
invariant-loop-index l = record {
  told : l.self.told ≡ record l.initial.self.told { counts = record l.initial.self.told.counts { learnt = l.index } };
  entries : Follow Learnt l.initial.self.told.counts.learnt l.index l.initial.self.entries.items l.self.entries.items;
}
