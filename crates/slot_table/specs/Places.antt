-- The places of a row.
use Rattle.std.specs.Prelude.{◌≡◌, ℕ, ◌<◌, ◌+◌, List, Option, Some, None, slice_get, length}
use Rattle.std.specs.BTreeMap.{BTreeMap, get}
use Rattle.std.specs.Ordering.{nat_cmp}

-- these places of a row, before one of them, are there and hold nothing
abbrev pub AreEmptyTo : {V : Type 0} → ℕ → List (Option V) → Type 0
AreEmptyTo end row = (s : ℕ) → s < end → slice_get row s ≡ Some None

-- nothing else is kept of the slots of a row that begins at this slot
abbrev pub RowIsApart : {V : Type 0} → ℕ → List (Option V) → BTreeMap ℕ V → Type 0
RowIsApart first row others = (s : ℕ) → s < length row → get nat_cmp others (first + s) ≡ None
