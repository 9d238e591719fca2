use Rattle.std.proofs.Common.{◌≡◌, ◌+◌, count_by, take}
use Rattle.verdicts.specs.Search.{is_known_by}
use Rattle.verdicts.proofs.search.place_of.Given as goal

-- so many of those that are to stand before it were met
abbrev pub invariant-loop-place : goal.invariant-loop-place
invariant-loop-place l = l.left + count_by (is_known_by l.client l.number) (take l.place l.requests) ≡ l.before
