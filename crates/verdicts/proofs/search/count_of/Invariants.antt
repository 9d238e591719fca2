use Rattle.std.proofs.Common.{◌≡◌, count_by, take}
use Rattle.verdicts.specs.Search.{is_command_of}
use Rattle.verdicts.proofs.search.count_of.Given as goal

abbrev pub invariant-loop-command : goal.invariant-loop-command
invariant-loop-command l = l.count ≡ count_by (is_command_of l.client l.number) (take l.command-index l.commands)
