use Rattle.std.proofs.Common.{◌≡◌, take}
use Rattle.serving.specs.Timings.{above_votes}
use Rattle.serving.proofs.horizon.Horizon.see_entries.Given as goal

abbrev pub invariant-loop-entry : goal.invariant-loop-entry
invariant-loop-entry l = l.self ≡ above_votes l.initial.self (take l.entry-index l.entries)
