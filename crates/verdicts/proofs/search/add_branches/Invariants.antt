use Rattle.std.proofs.Common.{◌≡◌, ◌++◌, take}
use Rattle.verdicts.specs.Search.{branches_at}
use Rattle.verdicts.proofs.search.add_branches.Given as goal

abbrev pub invariant-loop-place : goal.invariant-loop-place
invariant-loop-place l = l.branches.items ≡ l.initial.branches.items ++ branches_at l.slot (take l.place-index l.places)
