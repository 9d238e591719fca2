use Rattle.std.proofs.Common.{◌≡◌, ◌++◌, []}
use Rattle.proposer.specs.Campaigning.{up_to}
use Rattle.proposer.proofs.campaign.hear.Given as goal

-- what is told by now and by what is left is what is told in all; where nothing is kept of all, nothing is of what is left
abbrev pub invariant-loop-entry : goal.invariant-loop-entry
invariant-loop-entry l = record {
  heard : l.told.items ++ up_to l.end l.entry-iterator.rest.items ≡ l.fn.told.items ++ up_to l.end l.fn.entries.items;
  none : up_to l.end l.fn.entries.items ≡ [] → up_to l.end l.entry-iterator.rest.items ≡ [];
}
