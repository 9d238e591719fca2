-- Where nodes and steps stand in a picture, in hundredths of a unit: nodes side by side, steps one below the other.
use Rattle.std.specs.Prelude.{ℕ, ◌+◌, ◌-◌, ◌*◌, ◌/◌, ◌^◌, ◌<◌, ◌≤◌, max, min, List, slice_index_or}
use Rattle.picture.specs.declared.canvas.Place.{Place}

-- how far from the left the lane of a node is: so many nodes share the width, from the first one's lane to the last one's
unfoldable pub lane : ℕ → ℕ → ℕ
lane nodes node = 28000 + node * 46000 / max (nodes - 1) 1

-- how far down a step stands, by where the steps of a layout end; 0 where it has no place for the step
abbrev pub down : List ℕ → ℕ → ℕ
down ends step = slice_index_or ends step 0

-- it has a place for a step
abbrev pub Stands : List ℕ → ℕ → Type 0
Stands ends step = 0 < down ends step

-- so much further right or down; but no place is further than the greatest number
abbrev pub further : ℕ → ℕ → ℕ
further from by = min (from + by) (2 ^ 32 - 1)

-- a node, at a step
abbrev pub place : ℕ → List ℕ → ℕ → ℕ → Place
place nodes ends node step = record { x = lane nodes node; y = down ends step }

-- at each step so many lines of text have room below the steps above it, and half a line where there is none. No place is further than the
-- greatest number
pub record HaveRoom (texts ends : List ℕ) : Type 0 where
  pub each : (i j : ℕ) → i < j → Stands ends i → Stands ends j
      → further (down ends i) (max 450 (slice_index_or texts j 0 * 900)) ≤ down ends j
