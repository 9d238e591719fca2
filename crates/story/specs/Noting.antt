-- The steps that are noted of what is done: what it was, and how long the world's lists were then.
use Rattle.std.specs.Prelude.{◌≡◌, ℕ, ◌+◌, List, [], ◌∷◌, ◌++◌, length, slice_get, true, false, Option, Some, None}
use Rattle.stable.specs.Script.{Script}
use Rattle.stable.specs.declared.stable.Stable.{Ghosts}
use Rattle.events.specs.declared.event.Event.{Event}
use Rattle.events.specs.declared.event.Event.TheVariants as event
use Rattle.world_model.specs.Waiting.{IsLowestWaiting}
use Rattle.world_model.specs.Worlds.{WorldState, DeliversFrame}
use Rattle.schedule.specs.declared.action.Action.{Action}
use Rattle.schedule.specs.declared.action.Action.TheVariants as action
use Rattle.schedule.specs.declared.replay_fault.ReplayFault.{ReplayFault}
use Rattle.story.specs.declared.deeds.Deed.{Deed}
use Rattle.story.specs.declared.deeds.Deed.TheVariants.{Submitted, Delivered, Dropped, TimedOut, Restarted, Other, Flushed}
use Rattle.story.specs.declared.ledger.Counts.{Counts}
use Rattle.story.specs.declared.ledger.Step.{Step}
use Rattle.story.specs.Counted.{counts_before}
use Rattle.story.specs.Ledgers.{counts_of}

-- ---- a step
-- what is done by an event
abbrev pub deed_of_event : Event → Deed
deed_of_event (event.Submit node submission) = Submitted node
deed_of_event (event.Deliver frame) = Delivered frame
deed_of_event (event.Drop frame) = Dropped frame
deed_of_event (event.Timeout node) = TimedOut node
deed_of_event (event.Tick node) = Other node
deed_of_event (event.Checkpoint node) = Other node
deed_of_event (event.Trim node) = Other node
deed_of_event (event.Restart node) = Restarted node
deed_of_event (event.Fault node failing) = Other node
deed_of_event (event.Query node query) = Other node

-- what a line asks for
abbrev pub deed_of : Action → Deed
deed_of (action.Step e) = deed_of_event e
deed_of action.Flush = Flushed
deed_of (action.Round node members) = Other node

-- this is done, and how long the lists of the world are then
abbrev pub step_of : {S : Type 0} → Deed → WorldState S → Step
step_of deed w = record { deed = deed; ends = counts_of w }

-- the lists are as long as behind these steps, but that there are so many frames
abbrev pub counts_with : List Step → ℕ → Counts
counts_with before frames = record (counts_before before (length before)) { frames = frames }

-- this is done behind these steps, and of all that came of it only the frames are counted, of which there are so many
abbrev pub sending_step : Deed → List Step → ℕ → Step
sending_step deed before frames = record { deed = deed; ends = counts_with before frames }

-- ---- the steps of a line
-- frames come one by one, each the lowest that waits then: a step for each
pub data ComeInTurn {S : Type 0} (storages : Ghosts (Script S)) (old : WorldState S) : List Step → WorldState S → Type 0 where
  none : ComeInTurn storages old [] old
  next : (steps : List Step) (k : ℕ) (now new : WorldState S) → ComeInTurn storages old steps now
      → IsLowestWaiting now.waiting k → DeliversFrame storages now k new
      → ComeInTurn storages old (steps ++ step_of (Delivered k) new ∷ []) new

-- a round is over, in which the frames from `first` on were sent: of those below a number each that waits no more has a step, in
-- their order, behind the steps before
pub data CameInRound {S : Type 0} (end : WorldState S) (before : List Step) (first : ℕ) : ℕ → List Step → Type 0 where
  at_first : CameInRound end before first first []
  has_come : (k : ℕ) (steps : List Step) → CameInRound end before first k steps → slice_get end.waiting k ≡ Some false
      → CameInRound end before first (k + 1) (steps ++ sending_step (Delivered k) (before ++ steps) (length end.frames) ∷ [])
  still_waits : (k : ℕ) (steps : List Step) → CameInRound end before first k steps → slice_get end.waiting k ≡ Some true
      → CameInRound end before first (k + 1) steps

-- all that were sent in it, from one world to the next
abbrev pub IsParted : {S : Type 0} → List Step → WorldState S → WorldState S → List Step → Type 0
IsParted before old new steps = CameInRound new before (length old.frames) (length new.frames) steps

-- the step with which a round begins
abbrev pub round_begin : {S : Type 0} → ℕ → List Step → WorldState S → List Step
round_begin node before new = sending_step (Other node) before (length new.frames) ∷ []

module _ {S : Type 0} (storages : Ghosts (Script S)) where
  -- what is noted of a line that is done, or can't be, behind the steps before: an event is one step. A flush is a step for each frame
  -- that comes. A round by hand is one for its begin, with all its frames, one for each of these that comes, and one for its end, with all
  -- else that came of it; where it has no end only the frames are noted
  abbrev pub LineIsNoted : Action → Option ReplayFault → WorldState S → List Step → List Step → WorldState S → Type 0
  LineIsNoted (action.Step e) None old before steps new = steps ≡ step_of (deed_of_event e) new ∷ []
  LineIsNoted (action.Step e) (Some fault) old before steps new = steps ≡ []
  LineIsNoted action.Flush fault old before steps new = ComeInTurn storages old steps new
  LineIsNoted (action.Round node members) None old before steps new =
      (came : List Step) × (steps ≡ round_begin node before new ++ (came ++ step_of (Other node) new ∷ []))
      × IsParted (before ++ round_begin node before new) old new came
  LineIsNoted (action.Round node members) (Some fault) old before steps new = IsParted before old new steps

  -- behind the steps before stand those of the line
  pub record NotesLine (a : Action) (fault : Option ReplayFault) (old : WorldState S) (before : List Step)
      (new : WorldState S) (after : List Step) : Type 0 where
    pub more : List Step
    pub steps : after ≡ before ++ more
    pub noted : LineIsNoted a fault old before more new

-- ---- parts of a line
-- a round that is done begins with a step of its own, and one that can't be done with none
abbrev pub RoundIsBegun : {S : Type 0} → ℕ → Option ReplayFault → WorldState S → List Step → List Step → Type 0
RoundIsBegun node None new before after = after ≡ before ++ round_begin node before new
RoundIsBegun node (Some fault) new before after = after ≡ before

-- what was done is noted as one step, and what can't be done as none
abbrev pub IsNoted : {S : Type 0} → Deed → Option ReplayFault → WorldState S → List Step → List Step → Type 0
IsNoted deed None new before after = after ≡ before ++ step_of deed new ∷ []
IsNoted deed (Some fault) new before after = after ≡ before

-- frame k of a round that is over is noted, if it waits no more
pub record FrameIsNoted {S : Type 0} (end : WorldState S) (k : ℕ) (before after : List Step) : Type 0 where
  pub came : slice_get end.waiting k ≡ Some false → after ≡ before ++ sending_step (Delivered k) before (length end.frames) ∷ []
  pub waits : slice_get end.waiting k ≡ Some true → after ≡ before

-- behind the steps before stand those of the frames of a round, from one to before another
pub record NotesRound {S : Type 0} (end : WorldState S) (first k : ℕ) (before after : List Step) : Type 0 where
  pub more : List Step
  pub steps : after ≡ before ++ more
  pub came : CameInRound end before first k more
