use Rattle.std.proofs.Common.{take}
use Rattle.sqlstable.specs.Keys.{AreKeysOf}
use Rattle.sqlstable.proofs.listed_keys.keys_in.Given as goal

abbrev pub invariant-loop-row : goal.invariant-loop-row
invariant-loop-row l = AreKeysOf (take l.row-index l.rows) l.keys.items
