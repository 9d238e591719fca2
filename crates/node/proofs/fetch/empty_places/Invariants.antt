use Rattle.std.proofs.Common.{◌≡◌, None, replicate}
use Rattle.node.proofs.fetch.empty_places.Given as goal

-- so many places are there
abbrev pub invariant-loop : goal.invariant-loop
invariant-loop l = l.held.items ≡ replicate l.counter None
