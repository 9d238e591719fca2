-- Keys, spelled as bytes in the rows of the table.
use Rattle.std.specs.Prelude.{◌≡◌, ℕ, nat_lt, Bool, true, false, if◌then◌else◌, List, [], ◌∷◌, map, None}
use Rattle.std.specs.Int.{w32, to_be_bytes}
use Rattle.std.specs.List.{AllByRecursion}
use Rattle.sqlite_value.specs.declared.value.Value.TheVariants.{Blob}
use Rattle.sqlite_value.specs.Order.{Row, column}
use Rattle.sqlite_rules.specs.Lists.{Has}
use Rattle.stable.specs.Records.{Records, letter}
use Rattle.stable.specs.declared.key.Key.{Key}
use Rattle.stable.specs.declared.key.Key.TheVariants.{Vote}
use Rattle.sqlstable.specs.Rows.{has_key, is_bytes, value_at}

-- the key's byte, and of a vote the slot in four
abbrev pub spelled : Key → List ℕ
spelled (Vote slot) = 0x56 ∷ to_be_bytes w32 slot
spelled key = letter key ∷ []

-- the bytes with which the keys of votes begin, and no other key
abbrev pub votes : List ℕ
votes = 0x56 ∷ []

-- how a vote's key is spelled
abbrev pub vote_key : ℕ → List ℕ
vote_key slot = 0x56 ∷ to_be_bytes w32 slot

-- the log has the slot; a greater one would be spelled as another
abbrev pub is_valid : Key → Bool
is_valid (Vote slot) = nat_lt slot 65536
is_valid key = true

-- the records in these rows
abbrev pub records_in : List Row → Records
records_in rows key = if is_valid key then value_at (spelled key) rows else None

-- a row has a key that is the spelling of none
abbrev pub HasStray : List Row → Type 0
HasStray rows = (row : Row) × Has rows row × ((key : Key) → is_valid key ≡ true → has_key (spelled key) row ≡ false)

-- the rows of a list tell these keys, one after the other
pub record AreKeysOf (rows : List Row) (keys : List Key) : Type 0 where
  pub valid : AllByRecursion (λ key. is_valid key ≡ true) keys
  pub tell : map (λ row. column row 0) rows ≡ map (λ key. Blob (spelled key)) keys

-- the row of a list tells no key
abbrev pub TellsNone : Row → Type 0
TellsNone row = (key : Key) → is_valid key ≡ true → is_bytes (spelled key) (column row 0) ≡ false
