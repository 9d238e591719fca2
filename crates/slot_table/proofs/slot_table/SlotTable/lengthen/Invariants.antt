use Rattle.std.proofs.Common.{◌≡◌, ◌≤◌, ◌+◌, length}
use Rattle.slot_table.specs.Values.{value_at}
use Rattle.slot_table.proofs.slot_table.SlotTable.lengthen.Given as goal

abbrev pub invariant-loop-next : goal.invariant-loop-next
invariant-loop-next g l =
    (value_at l.self ≡ value_at l.initial.self) × (length l.self.row.items + l.end ≤ length l.initial.self.row.items + l.next)
    × (l.next ≤ l.end + 64)
