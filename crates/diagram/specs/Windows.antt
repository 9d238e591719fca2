-- Which frames a picture shows.
use Rattle.std.specs.Prelude.{◌≡◌, ℕ, ◌+◌, ◌-◌, ◌*◌, ◌/◌, ◌<◌, ◌≤◌, min, Option, Some, None}
use Rattle.diagram.specs.declared.layout.Window.{Window}

-- the first frame that is asked for: of so many frames the one of this number, or the first of all
abbrev pub asked_first : ℕ → Option ℕ → ℕ
asked_first frames None = 0
asked_first frames (Some from) = min from frames

-- behind the last one: the one of this number, or the last of all
abbrev pub asked_end : ℕ → Option ℕ → ℕ
asked_end frames None = frames
asked_end frames (Some to) = min (to + 1) frames

-- so many frames are asked for, of which a picture shows no more than that
abbrev pub asked : ℕ → Option ℕ → Option ℕ → ℕ
asked frames from to = min (asked_end frames to - asked_first frames from) 200

-- the window is of so many of these frames, from the first on: of all, or with so many eighths left out at the end, where they don't fit
-- a page. Of some frames it shows some
pub record IsWindowOf (frames from most : ℕ) (window : Window) : Type 0 where
  pub first : window.first ≡ from
  pub in_order : window.first ≤ window.end
  pub there : window.end ≤ frames
  pub eighths : ℕ
  pub not_all : eighths < 8
  pub is : window.end ≡ from + (most - most * eighths / 8)

-- of so many frames those are shown that are asked for, or the first of them
abbrev pub IsChosen : ℕ → Option ℕ → Option ℕ → Window → Type 0
IsChosen frames from to window = IsWindowOf frames (asked_first frames from) (asked frames from to) window
