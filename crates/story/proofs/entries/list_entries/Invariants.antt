use Rattle.std.proofs.Common.{◌≡◌}
use Rattle.story.specs.Counted.{begin_before}
use Rattle.story.specs.Telling.{IsUpToDate, Tells}
use Rattle.story.proofs.entries.list_entries.Given as goal

abbrev pub invariant-loop-index : goal.invariant-loop-index
invariant-loop-index l = record {
  lines : l.listing.told.lines ≡ l.index;
  steps : l.listing.told.steps ≡ begin_before l.lines l.index;
  up_to_date : IsUpToDate l.steps l.listing.told;
  tells : Tells l.lines l.steps l.outcomes l.listing.entries.items l.listing.told;
}
