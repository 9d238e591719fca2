-- What is drawn of each frame.
use Rattle.std.specs.Prelude.{◌≡◌, ℕ, ◌+◌, ◌<◌, List, length, slice_get, slice_index_or, Option, Some, None, Bool, true, false}
use Rattle.wire.specs.declared.frames.envelope.Envelope.{Envelope}
use Rattle.diagram.specs.declared.arrows.Arrow.{Arrow}
use Rattle.diagram.specs.declared.arrows.Fate.{Fate}
use Rattle.diagram.specs.declared.arrows.Fate.TheVariants.{Came, Dropped, Waits}
use Rattle.diagram.specs.declared.arrows.Passage.{Passage}

-- a frame waits, came at a step, or else was dropped
abbrev pub fate_of : Bool → Option ℕ → Fate
fate_of true came = Waits
fate_of false (Some step) = Came step
fate_of false None = Dropped

abbrev pub arrow_of : ℕ → Envelope → Bool → Passage → Arrow
arrow_of number frame waits passage = record {
  frame = number;
  from = frame.from;
  to = frame.to;
  sent = passage.sent;
  fate = fate_of waits passage.came;
}

-- the arrow is that of frame k, by what the lists have of it
pub record IsArrow (frames : List Envelope) (waiting : List Bool) (passages : List Passage) (k : ℕ) (arrow : Arrow) : Type 0 where
  pub frame : Envelope
  pub sent : slice_get frames k ≡ Some frame
  pub waits : Bool
  pub flag : slice_get waiting k ≡ Some waits
  pub passage : Passage
  pub passed : slice_get passages k ≡ Some passage
  pub is : arrow ≡ arrow_of k frame waits passage

-- one arrow for each frame from the first to before the end, in their order
pub record AreArrows (frames : List Envelope) (waiting : List Bool) (passages : List Passage) (first end : ℕ) (arrows : List Arrow) : Type 0 where
  pub each_once : first + length arrows ≡ end
  pub each : (i : ℕ) (d : Arrow) → i < length arrows → IsArrow frames waiting passages (first + i) (slice_index_or arrows i d)
