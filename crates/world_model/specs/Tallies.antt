-- The lists of a world have as many entries as its outcomes tell of.
use Rattle.std.specs.Prelude.{◌≡◌, ℕ, length, sum_by}
use Rattle.stable.specs.Script.{Script}
use Rattle.stable.specs.declared.stable.Stable.{Ghosts}
use Rattle.events.specs.declared.event.Event.{Event}
use Rattle.world_model.specs.declared.lists.StepOutcome.{StepOutcome}
use Rattle.world_model.specs.declared.lists.StepOutcome.TheVariants.{Done, Restored, Answered, Lost, Refused, Stopped, Round}
use Rattle.world_model.specs.Flushing.{IsStart}
use Rattle.world_model.specs.Worlds.{WorldState, Steps}

-- how many slots a node learnt
abbrev pub learnt_told : StepOutcome → ℕ
learnt_told (Done learnt replies) = learnt
learnt_told (Restored node position replies) = 0
learnt_told Answered = 0
learnt_told Lost = 0
learnt_told (Refused node f) = 0
learnt_told (Stopped node f) = 0
learnt_told (Round node end) = 0

-- how many requests that waited have their reply
abbrev pub replies_told : StepOutcome → ℕ
replies_told (Done learnt replies) = replies
replies_told (Restored node position replies) = replies
replies_told Answered = 0
replies_told Lost = 0
replies_told (Refused node f) = 0
replies_told (Stopped node f) = 0
replies_told (Round node end) = 0

-- how many queries were answered
abbrev pub answers_told : StepOutcome → ℕ
answers_told (Done learnt replies) = 0
answers_told (Restored node position replies) = 0
answers_told Answered = 1
answers_told Lost = 0
answers_told (Refused node f) = 0
answers_told (Stopped node f) = 0
answers_told (Round node end) = 0

-- as many entries as the outcomes tell of
pub record IsTallied {S : Type 0} (w : WorldState S) : Type 0 where
  pub learnt : length w.learnt ≡ sum_by learnt_told w.outcomes
  pub replies : length w.replies ≡ sum_by replies_told w.outcomes
  pub answers : length w.answers ≡ sum_by answers_told w.outcomes

-- every step keeps it so
pub record StepsTally {S : Type 0} (storages : Ghosts (Script S)) : Type 0 where
  pub start : (count : ℕ) (w : WorldState S) → IsStart storages count w → IsTallied w
  pub step : (old : WorldState S) (e : Event) (new : WorldState S)
      → Steps storages old e new → IsTallied old → IsTallied new
