-- What the page of a fleet shows.
use Rattle.std.specs.Prelude.{◌≡◌, ℕ, ◌+◌, ◌-◌, List, ◌++◌, slice_get, Some, codes}
use Rattle.mfjson.specs.declared.feature.Feature.{Feature}
use Rattle.picture.specs.Elements.{circle_text, closed, opened, words_text}
use Rattle.picture.specs.Growing.{Has}
use Rattle.picture.specs.declared.canvas.Place.{Place}
use Rattle.fleetmap.specs.Charts.{Square}
use Rattle.fleetmap.specs.Fleets.{AreShown}
use Rattle.fleetmap.specs.declared.page.TheConstants.{MAP_LEFT, MAP_TOP, MAP_BOTTOM}
use Rattle.fleetmap.specs.declared.label.TheConstants.{MARK}
use Rattle.fleetmap.specs.declared.shown.Shown.{Shown}
use Rattle.fleetmap.specs.declared.shown.Shown.TheVariants.{At}
use Rattle.fleetmap.specs.declared.spot.Spot.{Spot}

-- the head of the page
abbrev pub title_place : Place
title_place = record { x = MAP_LEFT; y = 3000 }

unfoldable pub title_text : List ℕ → List ℕ
title_text title = words_text (codes "title") title_place title

-- where a spot of the chart is on the page: the lower left corner of the map is the chart's
abbrev pub place_of : Spot → Place
place_of spot = record { x = MAP_LEFT + spot.x; y = MAP_BOTTOM - spot.y }

-- ---- marks
-- the feature at this place is shown at no spot
abbrev pub IsNotShown : List Feature → List Shown → ℕ → Type 0
IsNotShown fs shown k = (f : Feature) (spot : Spot) → slice_get fs k ≡ Some f → ¬ (slice_get shown k ≡ Some (At spot))

-- it has this id, and is shown at this spot
abbrev pub IsMarkOf : List Feature → List Shown → ℕ → List ℕ → Spot → Type 0
IsMarkOf fs shown k id spot = ((f : Feature) × (slice_get fs k ≡ Some f) × (id ≡ f.id)) × (slice_get shown k ≡ Some (At spot))

-- a mark at a spot, which shows an id where the pointer rests on it
unfoldable pub mark_text : List ℕ → List ℕ → Spot → List ℕ
mark_text class id spot = (opened class id ++ circle_text (codes "mark") (place_of spot) MARK) ++ closed

-- there is one, in some colour
pub record IsMarked (id : List ℕ) (spot : Spot) (text : List ℕ) : Type 0 where
  pub class : List ℕ
  pub mark : Has (mark_text class id spot) text

-- the feature at this place is marked at its spot, if it is shown at one
pub record IsMarkedAt (fs : List Feature) (shown : List Shown) (k : ℕ) (text : List ℕ) : Type 0 where
  pub marked : (f : Feature) (spot : Spot) → slice_get fs k ≡ Some f → slice_get shown k ≡ Some (At spot) → IsMarked f.id spot text

-- so is each feature
pub record AreMarked (fs : List Feature) (shown : List Shown) (text : List ℕ) : Type 0 where
  pub each : (k : ℕ) → IsMarkedAt fs shown k text

-- on a chart the features are shown as they are at the instant, each that is on it with its id, below a title
pub record ShowsFleet (fs : List Feature) (t : ℕ) (title text : List ℕ) : Type 0 where
  pub titled : Has (title_text title) text
  pub chart : Square
  pub shown : List Shown
  pub as_they_are : AreShown chart t fs shown
  pub marked : AreMarked fs shown text
