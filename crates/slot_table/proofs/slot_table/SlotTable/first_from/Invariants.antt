use Rattle.std.proofs.Common.{◌≤◌}
use Rattle.slot_table.specs.Values.{value_at, IsEmptyBetween}
use Rattle.slot_table.proofs.slot_table.SlotTable.first_from.Given as goal

-- at the slots that were looked at nothing stands
abbrev pub invariant-loop-next : goal.invariant-loop-next
invariant-loop-next g l = IsEmptyBetween (value_at l.fn.self) l.fn.from l.next × (l.fn.self.from ≤ l.next)
