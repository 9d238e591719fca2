-- What a connection keeps of the table between calls.
use Rattle.std.specs.Prelude.{◌≡◌, ◌≢◌, ◌⊎◌, ◌≤◌, false, IsTrue, List, []}
use Rattle.sqlite_value.specs.Order.{Row}
use Rattle.sqlite_disk.specs.Disk.{MoreFaults}
use Rattle.sqlite_trees.specs.Objects.{catalog_tree}
use Rattle.sqlite.specs.State.{State, HasCleanDisk, IsUnchanged, IsRolledBack}
use Rattle.sqlstable.specs.Table.{record_schema}
use Rattle.sqlstable.specs.Rows.{HasOwnKeys, HasOwnNumbers, AreNumbered}

-- the rows of the table
abbrev pub table : State → List Row
table s = s.now.trees 0

-- the disk has returned so far what was written, and no fault has shut the connection
abbrev pub IsUsable : State → Type 0
IsUsable s = HasCleanDisk s × IsTrue s.is_open

-- nothing changed, or what wasn't committed is undone
abbrev pub Leaves : State → State → Type 0
Leaves old new = IsUnchanged old new ⊎ IsRolledBack old new

-- the table is there and nothing else, its keys differ, its rows have numbers that differ, and all is committed
pub record TableIsSound (s : State) : Type 0 where
  pub schema : s.now.schema ≡ record_schema
  pub autocommit : s.in_transaction ≡ false
  pub committed_schema : s.committed.schema ≡ record_schema
  pub committed : s.committed.trees 0 ≡ s.now.trees 0
  pub listed : s.committed.trees catalog_tree ≢ []
  pub own_keys : HasOwnKeys (s.now.trees 0)
  pub numbered : AreNumbered (s.now.trees 0)
  pub own_numbers : HasOwnNumbers (s.now.trees 0)

-- sound, or of no use any more
abbrev pub TableIsSettled : State → Type 0
TableIsSettled s = HasCleanDisk s → IsTrue s.is_open → TableIsSound s

-- no call makes a disk honest again, opens a connection again, forgets a fault of the disk or spoils the table; and as long as the disk
-- has returned what was written, only a fault of it shuts the connection
pub record Follows (old new : State) : Type 0 where
  pub clean : HasCleanDisk new → HasCleanDisk old
  pub was_open : HasCleanDisk new → IsTrue new.is_open → IsTrue old.is_open
  pub settled : TableIsSettled old → TableIsSettled new
  pub faults : old.faults ≤ new.faults
  pub closes : HasCleanDisk new → IsTrue old.is_open → IsTrue new.is_open ⊎ MoreFaults old.faults new.faults
