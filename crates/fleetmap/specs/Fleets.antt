-- A fleet at an instant.
use Rattle.std.specs.Prelude.{◌≡◌, ℕ, ◌≤◌, List, length, slice_get, Some}
use Rattle.mfjson.specs.declared.feature.Feature.{Feature}
use Rattle.tpoint.specs.Moving.{Sequence, Position, At as HasPlace, moment}
use Rattle.fleetmap.specs.Charts.{Square, LiesOn, IsDrawnAt}
use Rattle.fleetmap.specs.declared.shown.Shown.{Shown}
use Rattle.fleetmap.specs.declared.spot.Spot.{Spot}
use Rattle.fleetmap.specs.declared.shown.Shown.TheVariants.{Nowhere, Beyond, At}

-- a value that isn't on the chart
pub record IsBeyond (s : Square) (R : Position → Type 0) : Type 0 where
  pub v : Position
  pub value : R v
  pub elsewhere : ¬ LiesOn s v

-- a value that is on the chart, and drawn there
pub record IsDrawnOn (s : Square) (R : Position → Type 0) (spot : Spot) : Type 0 where
  pub v : Position
  pub value : R v
  pub inside : LiesOn s v
  pub drawn : IsDrawnAt s v spot

-- how what has this value, or none, is shown on a chart
abbrev pub IsShownAs : Square → (Position → Type 0) → Shown → Type 0
IsShownAs s R Nowhere = (v : Position) → ¬ R v
IsShownAs s R Beyond = IsBeyond s R
IsShownAs s R (At spot) = IsDrawnOn s R spot

-- each feature of those that are shown is shown by its value at the instant
pub record EachIsShown (s : Square) (t : ℕ) (fs : List Feature) (shown : List Shown) : Type 0 where
  pub each : (k : ℕ) (f : Feature) (one : Shown) → slice_get fs k ≡ Some f → slice_get shown k ≡ Some one
      → IsShownAs s (HasPlace f.seq (moment t)) one

-- all are shown, in their order
pub record AreShown (s : Square) (t : ℕ) (fs : List Feature) (shown : List Shown) : Type 0 where
  pub one_each : length shown ≡ length fs
  pub each : EachIsShown s t fs shown
