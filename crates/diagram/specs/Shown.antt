-- Which steps of a run a picture shows, and which marks and lines.
use Rattle.std.specs.Prelude.{◌≡◌, ◌==◌, ◌⊎◌, ℕ, ◌-◌, ◌<◌, ◌≤◌, nat_le, List, [], ◌∷◌, ◌++◌, length, slice_get, Bool, true, Option, Some, None, if◌then◌else◌}
use Rattle.diagram.specs.Drawn.{Draws}
use Rattle.diagram.specs.Places.{Stands, down, further}
use Rattle.diagram.specs.declared.arrows.Passage.{Passage}
use Rattle.diagram.specs.declared.layout.Window.{Window}
use Rattle.diagram.specs.declared.scene.Label.{Label}
use Rattle.diagram.specs.declared.scene.Mark.{Mark}
use Rattle.diagram.specs.declared.scene.Scene.{Scene}

-- of some things those that are such are shown, and no others, in their order
pub data AreShown {A : Type 0} (IsSuch : A → Type 0) : List A → List A → Type 0 where
  none : AreShown IsSuch [] []
  shown : (things some : List A) (thing : A) → AreShown IsSuch things some → IsSuch thing
      → AreShown IsSuch (things ++ thing ∷ []) (some ++ thing ∷ [])
  left_out : (things some : List A) (thing : A) → AreShown IsSuch things some → ¬ (IsSuch thing)
      → AreShown IsSuch (things ++ thing ∷ []) some

-- ---- the steps of a window
-- the step at which a frame was sent
abbrev pub sent_by : Option Passage → ℕ
sent_by None = 0
sent_by (Some p) = p.sent

abbrev pub sent_at : List Passage → ℕ → ℕ
sent_at passages k = sent_by (slice_get passages k)

-- the first and the last step: those at which the window's first and last frame were sent. All that are before the first frame of all, or
-- behind the last, are of the window that has it
abbrev pub first_step : Scene → Window → ℕ
first_step s window = if window.first == 0 then 0 else sent_at s.passages.now window.first

abbrev pub last_step : Scene → Window → ℕ
last_step s window = if nat_le (length s.frames.now) window.end then s.steps else sent_at s.passages.now (window.end - 1)

abbrev pub mark_step : Mark → ℕ
mark_step m = m.step

abbrev pub label_step : Label → ℕ
label_step l = l.step

-- one of these things is at this step, which is from the first step to the last
pub record IsStepOf {A : Type 0} (step_of : A → ℕ) (things : List A) (first last step : ℕ) : Type 0 where
  pub number : ℕ
  pub thing : A
  pub there : slice_get things number ≡ Some thing
  pub is : step_of thing ≡ step
  pub from : first ≤ step
  pub to : step ≤ last

-- a frame was sent or came at this step
abbrev pub IsStepOfPassage : Passage → ℕ → Type 0
IsStepOfPassage p step = (p.sent ≡ step) ⊎ (p.came ≡ Some step)

-- one of the frames from the first to before the end
pub record IsStepOfFrames (passages : List Passage) (first end step : ℕ) : Type 0 where
  pub number : ℕ
  pub from : first ≤ number
  pub below : number < end
  pub passage : Passage
  pub there : slice_get passages number ≡ Some passage
  pub is : IsStepOfPassage passage step

-- a step of which a window shows something
pub data Tells (s : Scene) (window : Window) (step : ℕ) : Type 0 where
  frame : IsStepOfFrames s.passages.now window.first window.end step → Tells s window step
  mark : IsStepOf mark_step s.marks.now (first_step s window) (last_step s window) step → Tells s window step
  label : IsStepOf label_step s.labels.now (first_step s window) (last_step s window) step → Tells s window step

-- ---- the steps of a layout
-- a later step stands lower, by half a line of text at least, and none below the bottom
pub record AreStacked (ends : List ℕ) (bottom : ℕ) : Type 0 where
  pub apart : (i j : ℕ) → i < j → Stands ends i → Stands ends j → further (down ends i) 450 ≤ down ends j
  pub inside : (step : ℕ) → down ends step ≤ bottom

-- each step of the run has a place of which the window shows something, and no other one
pub record IsLayout (s : Scene) (window : Window) (ends : List ℕ) (bottom : ℕ) : Type 0 where
  pub stands : (step : ℕ) → step < s.steps → Tells s window step → Stands ends step
  pub tells : (step : ℕ) → Stands ends step → Tells s window step
  pub stacked : AreStacked ends bottom

-- behind the old text those things are drawn whose steps have a place
pub record DrawsStanding {A : Type 0} (step_of : A → ℕ) (IsDrawn : A → List ℕ → Type 0) (ends : List ℕ) (things : List A) (old new : List ℕ)
    : Type 0 where
  pub shown : List A
  pub are : AreShown (λ thing. Stands ends (step_of thing)) things shown
  pub drawn : Draws IsDrawn old shown new

-- ---- flags of steps
abbrev pub IsSet : List Bool → ℕ → Type 0
IsSet flags step = slice_get flags step ≡ Some true

-- the flags of such steps are set beside those that were set, and no others
pub record Sets (IsSuch : ℕ → Type 0) (old new : List Bool) : Type 0 where
  pub long : length new ≡ length old
  pub kept : (step : ℕ) → IsSet old step → IsSet new step
  pub set : (step : ℕ) → step < length old → IsSuch step → IsSet new step
  pub only : (step : ℕ) → IsSet new step → IsSet old step ⊎ IsSuch step

-- this very step, if it is between these
pub record IsJust (this first last step : ℕ) : Type 0 where
  pub is : this ≡ step
  pub from : first ≤ step
  pub to : step ≤ last

-- the steps whose flags are set have places, one below the other, and no others have
pub record StandWhereSet (flags : List Bool) (ends : List ℕ) (bottom : ℕ) : Type 0 where
  pub stands : (step : ℕ) → IsSet flags step → Stands ends step
  pub set : (step : ℕ) → Stands ends step → IsSet flags step
  pub stacked : AreStacked ends bottom
