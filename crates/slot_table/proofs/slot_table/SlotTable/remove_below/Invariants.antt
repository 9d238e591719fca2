use Rattle.std.proofs.Common.{◌≡◌, ◌-◌, ◌≤◌}
use Rattle.slot_table.specs.Values.{value_at, without_below}
use Rattle.slot_table.proofs.slot_table.SlotTable.remove_below.Given as goal

abbrev pub invariant-loop-slot : goal.invariant-loop-slot
invariant-loop-slot g l = (value_at l.self ≡ without_below (value_at l.initial.self) l.next) × (l.next ≤ l.fn.below)

abbrev pub decreases-loop-slot : goal.decreases-loop-slot
decreases-loop-slot g l = 65536 - l.next
