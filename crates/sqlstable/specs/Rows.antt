-- Rows of the table: the number of the row, the key, the bytes that the key holds.
use Rattle.std.specs.Prelude.{◌≡◌, ◌≢◌, ◌&&◌, ℕ, Bool, true, false, bytes_eq, if◌then◌else◌, List, [], ◌∷◌, Option, Some, None}
use Rattle.std.specs.Cmp.Lexicographic.{slice_cmp}
use Rattle.std.specs.List.{AllByRecursion}
use Rattle.std.specs.Ordering.{is_ge, is_lt, nat_cmp}
use Rattle.sqlite_value.specs.Order.{Row, column, bytes}
use Rattle.sqlite_value.specs.declared.value.Value.{Value}
use Rattle.sqlite_value.specs.declared.value.Value.TheVariants.{Null, Int, Real, Text, Blob}
use Rattle.sqlite_trees.specs.Tree.{rowid, IsAscending}
use Rattle.sqlite_trees.specs.View.{is_int}
use Rattle.sqlite_rules.specs.Lists.{Has}

-- the value is these bytes
abbrev pub is_bytes : List ℕ → Value → Bool
is_bytes k Null = false
is_bytes k (Int n) = false
is_bytes k (Real x) = false
is_bytes k (Text t) = false
is_bytes k (Blob b) = bytes_eq b k

-- the row has this key
abbrev pub has_key : List ℕ → Row → Bool
has_key k row = is_bytes k (column row 1)

-- what the key holds, by these rows
abbrev pub value_at : List ℕ → List Row → Option (List ℕ)
value_at k [] = None
value_at k (row ∷ rows) = if has_key k row then Some (bytes (column row 2)) else value_at k rows

-- no bytes are both values
abbrev pub Differ : Value → Value → Type 0
Differ v w = (k : List ℕ) → is_bytes k v ≡ true → is_bytes k w ≡ false

-- no key is that of both rows
abbrev pub RowsAreApart : Row → Row → Type 0
RowsAreApart a b = (k : List ℕ) → has_key k a ≡ true → has_key k b ≡ false

-- no key comes twice
abbrev pub HasOwnKeys : List Row → Type 0
HasOwnKeys = IsAscending RowsAreApart

-- each row has a number
abbrev pub AreNumbered : List Row → Type 0
AreNumbered = AllByRecursion (λ row. is_int (rowid row) ≡ true)

-- no number is that of two rows
abbrev pub HasOwnNumbers : List Row → Type 0
HasOwnNumbers = IsAscending (λ a b. rowid a ≢ rowid b)

-- a put of these bytes under this key: one row has them, and the rows of other keys are those that were there
pub record PutsRow (k v : List ℕ) (old new : List Row) : Type 0 where
  pub own_keys : HasOwnKeys new
  pub numbered : AreNumbered new
  pub own_numbers : HasOwnNumbers new
  pub put : (row : Row) × Has new row × (has_key k row ≡ true) × (column row 2 ≡ Blob v)
  pub kept : (row : Row) → Has old row → has_key k row ≡ false → Has new row
  pub was : (row : Row) → Has new row → has_key k row ≡ false → Has old row

-- the value is bytes from the first of these on and below the second
abbrev pub is_between : List ℕ → List ℕ → Value → Bool
is_between low high Null = false
is_between low high (Int n) = false
is_between low high (Real x) = false
is_between low high (Text t) = false
is_between low high (Blob b) = is_ge (slice_cmp nat_cmp b low) && is_lt (slice_cmp nat_cmp b high)

-- the row's key lies between these bytes
abbrev pub goes : List ℕ → List ℕ → Row → Bool
goes low high row = is_between low high (column row 1)

-- the rows whose keys lie between these bytes are gone, and no other
pub record TrimsRows (low high : List ℕ) (old new : List Row) : Type 0 where
  pub own_keys : HasOwnKeys new
  pub numbered : AreNumbered new
  pub own_numbers : HasOwnNumbers new
  pub kept : (row : Row) → Has old row → goes low high row ≡ false → Has new row
  pub was : (row : Row) → Has new row → Has old row × (goes low high row ≡ false)
