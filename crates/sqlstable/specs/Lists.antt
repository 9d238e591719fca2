-- What the two selects tell of the table.
use Rattle.std.specs.Prelude.{◌≡◌, ◌≢◌, ⊤, ◌+◌, ◌<◌, ℕ, ℤ, ◌<ℤ◌, Bool, true, false, length, slice_index_or, List, [], ◌∷◌, Some, None}
use Rattle.std.specs.Ordering.{is_lt, nat_cmp}
use Rattle.std.specs.Cmp.Lexicographic.{slice_cmp}
use Rattle.sqlite_value.specs.Order.{Row, column, bytes, value_cmp}
use Rattle.sqlite_value.specs.declared.value.Value.{Value}
use Rattle.sqlite_value.specs.declared.value.Value.TheVariants.{Blob}
use Rattle.sqlite_trees.specs.Tree.{IsAscending}
use Rattle.sqlite_trees.specs.View.{is_int}
use Rattle.sqlite_rules.specs.Lists.{Has}
use Rattle.sqlstable.specs.Rows.{Differ, HasOwnKeys, HasOwnNumbers, value_at}

-- the rows of an answer tell what the key holds
abbrev pub TellsValue : List ℕ → List Row → List Row → Type 0
TellsValue k table [] = value_at k table ≡ None
TellsValue k table (row ∷ more) = value_at k table ≡ Some (bytes (column row 0))

-- what the list of keys tells of a row: its key and its number
abbrev pub key_row : Row → Row
key_row row = column row 1 ∷ column row 0 ∷ []

-- no number is told twice
abbrev pub HaveOwnNumbers : List Row → Type 0
HaveOwnNumbers = IsAscending (λ a b. column a 1 ≢ column b 1)

-- the rows of an answer tell the keys of the table, in order
pub record ListsKeys (table rows : List Row) : Type 0 where
  pub from : (row : Row) → Has rows row → (r : Row) × Has table r × (row ≡ key_row r)
  pub to : (r : Row) → Has table r → Has rows (key_row r)
  pub sorted : (at : ℕ) (none : Row) → at + 1 < length rows
      → is_lt (value_cmp (column (slice_index_or rows (at + 1) none) 0) (column (slice_index_or rows at none) 0)) ≡ false
  pub apart : HasOwnKeys table → IsAscending (λ a b. Differ (column a 0) (column b 0)) rows
  pub owned : IsAscending (λ a b. Differ (column a 0) (column b 0)) rows → HasOwnKeys table
  pub own_numbers : HaveOwnNumbers rows → HasOwnNumbers table

-- after bytes come greater bytes
abbrev pub rises : Value → Value → Bool
rises (Blob x) (Blob y) = is_lt (slice_cmp nat_cmp x y)
rises (Blob x) w = false
rises v w = true

-- the next row's key is above this row's
abbrev pub RisesTo : Row → List Row → Type 0
RisesTo row [] = ⊤
RisesTo row (next ∷ more) = rises (column row 0) (column next 0) ≡ true

-- the rows of the list have numbers, and keys that rise
abbrev pub AreSoundRows : List Row → Type 0
AreSoundRows [] = ⊤
AreSoundRows (row ∷ more) = (is_int (column row 1) ≡ true) × RisesTo row more × AreSoundRows more

-- each number is below the next
abbrev pub AreRising : List ℤ → Type 0
AreRising [] = ⊤
AreRising (n ∷ []) = ⊤
AreRising (n ∷ m ∷ more) = (n <ℤ m) × AreRising (m ∷ more)
