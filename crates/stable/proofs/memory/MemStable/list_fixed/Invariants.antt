use Rattle.stable.specs.Listing.{ListsTo}
use Rattle.stable.specs.Memory.{stored}
use Rattle.stable.proofs.memory.MemStable.list_fixed.Given as goal

abbrev pub invariant-loop-place : goal.invariant-loop-place
invariant-loop-place l = ListsTo (stored l.fn.self) l.place l.keys.items
