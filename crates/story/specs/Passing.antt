-- When each frame was sent and came, by the steps of a run.
use Rattle.std.specs.Prelude.{◌≡◌, ◌==◌, ◌⊎◌, ℕ, suc, ◌-◌, ◌<◌, ◌≤◌, List, length, slice_get, drop, Option, Some, None, if◌then◌else◌}
use Rattle.wire.specs.declared.frames.envelope.Envelope.{Envelope}
use Rattle.diagram.specs.declared.arrows.Passage.{Passage}
use Rattle.story.specs.Answering.{IsAnswered}
use Rattle.story.specs.declared.deeds.Deed.{Deed}
use Rattle.story.specs.declared.deeds.Deed.TheVariants.{Delivered}
use Rattle.story.specs.declared.ledger.Step.{Step}
use Rattle.story.specs.Counted.{NeverFall, counts_before}

-- at step i frame k comes
pub record DeliversAt (steps : List Step) (i k : ℕ) : Type 0 where
  pub step : Step
  pub is : slice_get steps i ≡ Some step
  pub delivers : step.deed ≡ Delivered k

-- and at no step before it
pub record FirstDeliversAt (steps : List Step) (i k : ℕ) : Type 0 where
  pub here : DeliversAt steps i k
  pub first : (j : ℕ) → j < i → ¬ (DeliversAt steps j k)

-- frame k came for the first time at this step, or at none
abbrev pub CameAt : List Step → ℕ → Option ℕ → Type 0
CameAt steps k None = (i : ℕ) → ¬ (DeliversAt steps i k)
CameAt steps k (Some i) = FirstDeliversAt steps i k

-- the step at which frame k came, as the passages have it: none, where they have no frame k
abbrev pub came_of : Option Passage → Option ℕ
came_of None = None
came_of (Some p) = p.came

abbrev pub came_in : List Passage → ℕ → Option ℕ
came_in passages k = came_of (slice_get passages k)

-- the passages have of each frame at which step it came
pub record ArePassages (steps : List Step) (passages : List Passage) : Type 0 where
  pub each : (k : ℕ) → CameAt steps k (came_in passages k)

-- one step made all the frames from this number to before the other
pub record OneMade (steps : List Step) (first end : ℕ) : Type 0 where
  pub step : ℕ
  pub there : step < length steps
  pub before : (counts_before steps step).frames ≤ first
  pub behind : end ≤ (counts_before steps (suc step)).frames

-- at this step a frame before frame k came for the first time, which frame k answers, and which one step made together with it, as a
-- round by hand does
pub record Hears (frames : List Envelope) (steps : List Step) (step k : ℕ) : Type 0 where
  pub heard : ℕ
  pub before : heard < k
  pub answered : IsAnswered frames heard k
  pub came : FirstDeliversAt steps step heard
  pub round : OneMade steps heard (suc k)

-- by the step at which frame k is sent the list of frames has it. That is the step which made it, or one at which a frame of the same
-- round came that it answers, and none behind the one at which frame k came
pub record IsSent (frames : List Envelope) (steps : List Step) (k : ℕ) (p : Passage) : Type 0 where
  pub has : k < (counts_before steps (suc p.sent)).frames
  pub when : ((counts_before steps p.sent).frames ≤ k) ⊎ Hears frames steps p.sent k
  pub in_time : (i : ℕ) → p.came ≡ Some i → p.sent ≤ i

-- the passages have of each frame at which step it was sent
pub record AreSent (frames : List Envelope) (steps : List Step) (passages : List Passage) : Type 0 where
  pub each : (k : ℕ) (p : Passage) → slice_get passages k ≡ Some p → IsSent frames steps k p

-- ---- one step more
-- of so many frames a deed delivers none that isn't there
abbrev pub DeliversOneOf : Deed → ℕ → Type 0
DeliversOneOf (Delivered k) frames = k < frames
DeliversOneOf other frames = Unit {0}

-- frame k comes at this step, if that delivers it
abbrev pub comes_by : Deed → ℕ → ℕ → Option ℕ
comes_by (Delivered frame) step k = if frame == k then Some step else None
comes_by other step k = None

-- one that came before came then
abbrev pub came_with : Option ℕ → Deed → ℕ → ℕ → Option ℕ
came_with None deed step k = comes_by deed step k
came_with (Some before) deed step k = Some before

-- what was done at the step is noted of each frame
pub record NotesComing (deed : Deed) (step : ℕ) (old new : List Passage) : Type 0 where
  pub each : (k : ℕ) → came_in new k ≡ came_with (came_in old k) deed step k

-- each frame came when it did
pub record SameComings (old new : List Passage) : Type 0 where
  pub each : (k : ℕ) → came_in new k ≡ came_in old k

-- the step at which frame k is sent, as the passages have it: this one, where they have no frame k
abbrev pub sent_of : ℕ → Option Passage → ℕ
sent_of step None = step
sent_of step (Some p) = p.sent

abbrev pub sent_in : ℕ → List Passage → ℕ → ℕ
sent_in step passages k = sent_of step (slice_get passages k)

-- frames that weren't there are sent at this step, and the others when they were
pub record NotesSending (step : ℕ) (old new : List Passage) : Type 0 where
  pub each : (k : ℕ) → sent_in step new k ≡ sent_in step old k

-- ---- later in a round
-- the frames from this number on are all made by one step, or none is made yet
abbrev pub MadeFrom : List Step → ℕ → ℕ → Type 0
MadeFrom steps first end = ((counts_before steps (length steps)).frames ≤ first) ⊎ OneMade steps first end

-- so any two of them are made by one step
pub record AreOfRound (steps : List Step) (first : ℕ) : Type 0 where
  pub each : (j k : ℕ) → first ≤ j → j < k → k < (counts_before steps (length steps)).frames → OneMade steps j (suc k)

-- a frame from this number on, and before frame k, came at this step. Frame k answers it: these are the frames from that number on
pub record HearsIn (late : List Envelope) (first : ℕ) (passages : List Passage) (k step : ℕ) : Type 0 where
  pub heard : ℕ
  pub from : first ≤ heard
  pub before : heard < k
  pub answered : IsAnswered late (heard - first) (k - first)
  pub came : came_in passages heard ≡ Some step

-- one that was sent at one step or at another, when it hears something, if it hasn't come by then
pub record IsLater (p : Passage) (heard sent : ℕ) : Type 0 where
  pub one : (sent ≡ p.sent) ⊎ ((sent ≡ heard) × (p.sent ≤ heard) × ((i : ℕ) → p.came ≡ Some i → heard ≤ i))

-- what the passages had of the steps at which the frames were sent they still have: these are the frames from this number on
pub record StillSent (late : List Envelope) (first : ℕ) (old new : List Passage) : Type 0 where
  pub kept : (frames : List Envelope) (steps : List Step) → late ≡ drop first frames → NeverFall steps → AreOfRound steps first
      → ArePassages steps old → AreSent frames steps old → AreSent frames steps new
