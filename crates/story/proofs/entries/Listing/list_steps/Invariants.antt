use Rattle.std.proofs.Common.{◌≡◌}
use Rattle.story.specs.Telling.{GoesOn, IsUpToDate}
use Rattle.story.proofs.entries.Listing.list_steps.Given as goal

abbrev pub invariant-loop-index : goal.invariant-loop-index
invariant-loop-index l = record {
  steps : l.self.told.steps ≡ l.index;
  lines : l.self.told.lines ≡ l.fn.self.told.lines;
  up_to_date : IsUpToDate l.steps l.self.told;
  goes_on : GoesOn l.steps l.outcomes l.fn.self l.self;
}
