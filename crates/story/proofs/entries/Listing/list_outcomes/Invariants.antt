use Rattle.std.proofs.Common.{◌≡◌}
use Rattle.story.specs.Counted.{AreWithin}
use Rattle.story.specs.Telling.{FollowOutcomes}
use Rattle.story.proofs.entries.Listing.list_outcomes.Given as goal

abbrev pub invariant-loop-index : goal.invariant-loop-index
invariant-loop-index l = record {
  within : AreWithin l.self.told.counts l.ends;
  told : l.self.told ≡ record l.fn.self.told {
    counts = record l.self.told.counts {
      frames = l.ends.frames;
      outcomes = l.index;
    };
  };
  entries : FollowOutcomes l.outcomes l.ends l.initial.self.told.counts l.self.told.counts l.initial.self.entries.items
      l.self.entries.items;
}
