-- Which of the frames of a run a datagram is.
use Rattle.std.specs.Prelude.{◌≡◌, ℕ, ◌<◌, List, slice_get, Some, IfSome}
use Rattle.wire.specs.FrameSpelling.{spelling}
use Rattle.wire.specs.declared.frames.envelope.Envelope.{Envelope}

-- the frame goes to this node, as these bytes
pub record GoesAs (node : ℕ) (bytes : List ℕ) (frame : Envelope) : Type 0 where
  pub receiver : frame.to ≡ node
  pub spelled : spelling frame ≡ bytes

-- frame k is the lowest that goes to the node as these bytes
pub record IsLowestFrame (frames : List Envelope) (node : ℕ) (bytes : List ℕ) (k : ℕ) : Type 0 where
  pub frame : Envelope
  pub sent : slice_get frames k ≡ Some frame
  pub goes : GoesAs node bytes frame
  pub lowest : (i : ℕ) → i < k → IfSome (slice_get frames i) (λ other. ¬ GoesAs node bytes other)

-- none of the frames goes to the node as these bytes
abbrev pub IsStranger : List Envelope → ℕ → List ℕ → Type 0
IsStranger frames node bytes = (i : ℕ) → IfSome (slice_get frames i) (λ other. ¬ GoesAs node bytes other)
