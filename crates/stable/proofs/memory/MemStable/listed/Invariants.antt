use Rattle.std.proofs.Common.{MatchOption, ◌+◌, ◌-◌, ℕ, Option, Some, None}
use Rattle.stable.specs.Listing.{ListsTo}
use Rattle.stable.specs.Memory.{stored}
use Rattle.stable.proofs.memory.MemStable.listed.Given as goal

-- the keys below those of the votes that are still to be looked for are listed
abbrev pub invariant-loop-from : goal.invariant-loop-from
invariant-loop-from l =
    MatchOption l.from (ListsTo (stored l.fn.self) 65539 l.keys.items) (λ first. ListsTo (stored l.fn.self) (first + 3) l.keys.items)

abbrev pub left : Option ℕ → ℕ
left None = 0
left (Some first) = 65536 - first

abbrev pub decreases-loop-from : goal.decreases-loop-from
decreases-loop-from l = left l.from
