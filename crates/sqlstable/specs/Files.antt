-- What files hold of the table, and what an open finds.
use Rattle.std.specs.Prelude.{◌≡◌, ◌≢◌, ◌⊎◌, List, []}
use Rattle.sqlite_value.specs.Order.{Row}
use Rattle.sqlite_trees.specs.Tree.{Trees}
use Rattle.sqlite_trees.specs.Objects.{catalog_tree}
use Rattle.sqlite_wal.specs.Recovery.{Image}
use Rattle.sqlite.specs.Files.{HoldsDatabase}
use Rattle.sqlite.specs.State.{State, HasCleanDisk}
use Rattle.sqlstable.specs.States.{table}

-- the log and the database file hold a database that lists a table, and these are its rows
abbrev pub HoldRows : Image → List Row → Type 0
HoldRows image rows = ∥ ((db : Trees) × HoldsDatabase image db × (db catalog_tree ≢ []) × (db 0 ≡ rows)) ∥₁

-- they hold these rows, and so does the database file with no log
pub record HoldRowsAlone (image : Image) (rows : List Row) : Type 0 where
  pub both : HoldRows image rows
  pub alone : HoldRows (record image { log = [] }) rows

-- where the files held rows, these are the same
abbrev pub AreThoseHeld : Image → List Row → Type 0
AreThoseHeld image found = (rows : List Row) → HoldRows image rows → found ≡ rows

-- whatever rows were there stayed, and are in the database file alone
abbrev pub IsSettledFrom : Image → Image → Type 0
IsSettledFrom before after = (rows : List Row) → HoldRows before rows → HoldRowsAlone after rows

-- the rows of the table that was there, or none where nothing was
pub record FindsTable (before : State) (rows : List Row) : Type 0 where
  pub was_clean : HasCleanDisk before
  pub found : ((before.now.trees catalog_tree ≡ []) × (rows ≡ [])) ⊎ (rows ≡ table before)
