use Rattle.std.proofs.Common.{◌+◌, refl, ap}
use Rattle.story.specs.declared.entries.Told.{Told}
use Rattle.story.specs.Telling.{no_more}
use Rattle.story.proofs.TellingLemmas.{one_entry}
use Rattle.story.proofs.entries.Listing.list_learnt.Goals as goal

pub loop-index-init : goal.loop-index-init
loop-index-init c = record { told = refl; entries = no_more _ _ }

pub loop-index-preserved : goal.loop-index-preserved
loop-index-preserved c = record {
  told = ap (λ (t : Told). record t { counts = record t.counts { learnt = c.loop-index.index + 1 } }) c.loop-index.invariant.told;
  entries = one_entry _ _ _ _ _ _ c.loop-index.invariant.entries c.in_ok-push.ensures.items;
}
