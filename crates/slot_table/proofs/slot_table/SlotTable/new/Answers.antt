use Rattle.std.proofs.Common.{rules}
use Rattle.slot_table.proofs.slot_table.SlotTable.new.Goals as goal

pub returns-clause-capacity : goal.returns-clause-capacity
returns-clause-capacity g c = search rules
