use Rattle.std.proofs.Common.{◌-◌, length}
use Rattle.verdicts.specs.Search.{AreLearnt, IsExtended}
use Rattle.verdicts.proofs.search.extend.Given as goal

abbrev pub invariant-loop-commands : goal.invariant-loop-commands
invariant-loop-commands l = record {
  extended : IsExtended l.requests l.names l.initial.commands.items l.commands.items;
  learnt : AreLearnt l.names (length l.initial.commands.items) → AreLearnt l.names (length l.commands.items);
}

abbrev pub decreases-loop-commands : goal.decreases-loop-commands
decreases-loop-commands l = length l.names - length l.commands.items
