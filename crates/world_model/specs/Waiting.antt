-- Which frames wait to be delivered: a flag for each.
use Rattle.std.specs.Prelude.{◌≡◌, ◌≢◌, ℕ, ◌<◌, List, slice_get, Bool, true, Some}

-- frame k waits, and none below it
pub record IsLowestWaiting (waiting : List Bool) (k : ℕ) : Type 0 where
  pub waits : slice_get waiting k ≡ Some true
  pub first : (j : ℕ) → j < k → slice_get waiting j ≢ Some true

-- no frame waits
pub record NoneWaits (waiting : List Bool) : Type 0 where
  pub none : (k : ℕ) → slice_get waiting k ≢ Some true

-- some frame waits
pub record OneWaits (waiting : List Bool) : Type 0 where
  pub frame : ℕ
  pub waits : slice_get waiting frame ≡ Some true

-- no frame below this one waits
pub record NoneWaitsBelow (waiting : List Bool) (lowest : ℕ) : Type 0 where
  pub none : (k : ℕ) → k < lowest → slice_get waiting k ≢ Some true
