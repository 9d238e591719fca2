-- A storage over the table, and what its calls make of it.
use Rattle.std.specs.Prelude.{◌≡◌, ◌⊎◌, ◌≤◌, ℕ, Some, IsSome, unwrap_or, List}
use Rattle.sqlite_value.specs.Order.{Row}
use Rattle.sqlite_disk.specs.Disk.{MoreFaults}
use Rattle.sqlite_trees.specs.declared.store.Store.{Ghosts}
use Rattle.sqlite.specs.Held.{state}
use Rattle.sqlite.specs.State.{HasCleanDisk}
use Rattle.stable.specs.Laws.{KeepsStray}
use Rattle.stable.specs.Records.{Change, changed}
use Rattle.stable.specs.Script.{counted}
use Rattle.stable.specs.declared.stable.Stable as stable
use Rattle.sqlstable.specs.States.{IsUsable, table}
use Rattle.sqlstable.specs.Keys.{records_in, HasStray}
use Rattle.sqlstable.specs.declared.storage.SqlStable.{SqlStable}

module _ {S : Type 0} (g : Ghosts S) where
  -- the rows of its table
  abbrev pub rows_of : SqlStable S g → List Row
  rows_of s = table (state g s.connection)

  -- how often the device has failed
  abbrev pub failures_of : SqlStable S g → ℕ
  failures_of s = unwrap_or s.failures 0

  -- it has not failed yet
  abbrev pub IsUnfailed : SqlStable S g → Type 0
  IsUnfailed s = s.failures ≡ Some 0

  -- the disk has returned so far what was written, no fault has shut the connection, and the failures can be counted
  pub record IsSqlHonest (s : SqlStable S g) : Type 0 where
    pub usable : IsUsable (state g s.connection)
    pub counts : IsSome s.failures

  -- its disk has returned so far what was written
  abbrev pub HasCleanStore : SqlStable S g → Type 0
  HasCleanStore s = HasCleanDisk (state g s.connection)

  -- as long as that is so and the failures can be counted, it goes on being honest, but where the disk itself has failed
  pub record StaysHonest (a b : SqlStable S g) : Type 0 where
    pub clean : HasCleanStore b → HasCleanStore a
    pub faults : (state g a.connection).faults ≤ (state g b.connection).faults
    pub stays : HasCleanStore b → IsSome b.failures → IsSqlHonest a
        → IsSqlHonest b ⊎ MoreFaults (state g a.connection).faults (state g b.connection).faults

  -- calls that write nothing, on which the device didn't fail
  pub record TableReads (a b : SqlStable S g) : Type 0 where
    pub disk : StaysHonest a b
    pub honest : IsSqlHonest b → IsSqlHonest a
    pub rows : IsSqlHonest b → rows_of b ≡ rows_of a
    pub failures : b.failures ≡ a.failures

  -- the same, but the last of them answers Device
  pub record TableReadFails (a b : SqlStable S g) : Type 0 where
    pub disk : StaysHonest a b
    pub honest : IsSqlHonest b → IsSqlHonest a
    pub rows : IsSqlHonest b → rows_of b ≡ rows_of a
    pub failures : b.failures ≡ counted a.failures

  -- calls of which one made this change
  pub record TableChanges (a : SqlStable S g) (change : Change) (b : SqlStable S g) : Type 0 where
    pub disk : StaysHonest a b
    pub honest : IsSqlHonest b → IsSqlHonest a
    pub records : IsSqlHonest b → records_in (rows_of b) ≡ changed (records_in (rows_of a)) change
    pub stray : IsSqlHonest b → KeepsStray change (HasStray (rows_of a)) (HasStray (rows_of b))
    pub failures : b.failures ≡ a.failures

  -- what it is as a storage: a change that fails leaves the old records
  abbrev pub in_table : stable.Ghosts (SqlStable S g)
  in_table = record {
    contents = λ s. records_in (rows_of s);
    failures = failures_of;
    IsHonest = IsSqlHonest;
    HasStrayKey = λ s. HasStray (rows_of s);
    IsSettled = λ _. Unit {0};
    reads = TableReads;
    looks = TableReads;
    changes = TableChanges;
    read_fails = TableReadFails;
    fails = λ a change b. TableReadFails a b;
  }
