-- What stands at each slot.
use Rattle.std.specs.Prelude.{◌≡◌, ℕ, ◌<◌, ◌≤◌, ◌-◌, List, Option, Some, None, slice_get, nat_lt, if◌then◌else◌}
use Rattle.std.specs.BTreeMap.{get}
use Rattle.std.specs.Ordering.{nat_cmp}
use Rattle.synod.specs.declared.slot.TheConstants.{SLOTS}
use Rattle.slot_table.specs.declared.slot_table.SlotTable.{SlotTable}

-- what a place of the row holds; where the row has no such place, what stands there otherwise
abbrev pub place_or : {V : Type 0} → Option (Option V) → Option V → Option V
place_or None otherwise = otherwise
place_or (Some place) otherwise = place

-- the place of a slot in a row that begins at this one, where it has one
abbrev pub row_from : {V : Type 0} → ℕ → List (Option V) → ℕ → Option (Option V)
row_from first row s = if nat_lt s first then None else slice_get row (s - first)

-- what is read of such a row, and of the slots that aren't of it what stands there otherwise
abbrev pub in_row : {V : Type 0} → ℕ → List (Option V) → (ℕ → Option V) → ℕ → Option V
in_row first row others s = place_or (row_from first row s) (others s)

-- the same of the slots of the log, and nothing of others
abbrev pub in_log : {V : Type 0} → (ℕ → Option V) → ℕ → Option V
in_log f s = if nat_lt s SLOTS then f s else None

-- the value that stands at each slot
abbrev pub value_at : {V : Type 0} → SlotTable V → ℕ → Option V
value_at b = in_log (in_row b.from b.row.items (get nat_cmp b.others))

-- the same, but nothing at a slot below this one
abbrev pub without_below : {V : Type 0} → (ℕ → Option V) → ℕ → ℕ → Option V
without_below at below s = if nat_lt s below then None else at s

-- nothing stands at a slot, nor at any later one
abbrev pub IsEmptyFrom : {V : Type 0} → (ℕ → Option V) → ℕ → Type 0
IsEmptyFrom at first = (s : ℕ) → first ≤ s → at s ≡ None

-- of the slots from one on, this is the first at which something stands, and this is what stands there
pub record IsFirstFrom {V : Type 0} (at : ℕ → Option V) (first slot : ℕ) (value : V) : Type 0 where
  pub from : first ≤ slot
  pub stands : at slot ≡ Some value
  pub none_before : (s : ℕ) → first ≤ s → s < slot → at s ≡ None

-- nothing stands at the slots from one on and below another
abbrev pub IsEmptyBetween : {V : Type 0} → (ℕ → Option V) → ℕ → ℕ → Type 0
IsEmptyBetween at first end = (s : ℕ) → first ≤ s → s < end → at s ≡ None

-- this is the first of them at which something stands
pub record IsFirstBelow {V : Type 0} (at : ℕ → Option V) (first end slot : ℕ) : Type 0 where
  pub from : first ≤ slot
  pub below : slot < end
  pub none_before : IsEmptyBetween at first slot
