use Rattle.std.proofs.Common.{◌≡◌, take}
use Rattle.timeindex.specs.Entries.{ids_overlapping}
use Rattle.timeindex.proofs.index.TimeIndex.overlapping.Given as goal

abbrev pub invariant-loop-entry : goal.invariant-loop-entry
invariant-loop-entry l = l.ids.items ≡ ids_overlapping (take l.entry-index l.entry-items) l.period
