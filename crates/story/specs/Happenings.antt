-- What came of a run's steps, by the lists of its world.
use Rattle.std.specs.Prelude.{ℕ, List, Option, Some, None, option_and_then, option_map, slice_get}
use Rattle.diagram.specs.Facts.{facts_of}
use Rattle.diagram.specs.declared.facts.Facts.{Facts}
use Rattle.node_model.specs.declared.fault.NodeFault.{NodeFault}
use Rattle.wire.specs.declared.frames.envelope.Envelope.{Envelope}
use Rattle.world_model.specs.Worlds.{WorldState}
use Rattle.world_model.specs.declared.lists.Answered.{Answered}
use Rattle.world_model.specs.declared.lists.LearntEntry.{LearntEntry}
use Rattle.world_model.specs.declared.lists.Replied.{Replied}
use Rattle.world_model.specs.declared.lists.StepOutcome.{StepOutcome}
use Rattle.world_model.specs.declared.lists.StepOutcome.TheVariants as outcome
use Rattle.world_model.specs.declared.round_end.RoundEnd.{RoundEnd}
use Rattle.story.specs.declared.deeds.Deed.{Deed}
use Rattle.story.specs.declared.deeds.Deed.TheVariants.{Delivered}
use Rattle.story.specs.declared.entries.Entry.{Entry}
use Rattle.story.specs.declared.entries.Entry.TheVariants as entry
use Rattle.story.specs.declared.ledger.Step.{Step}
use Rattle.story.specs.declared.items.Item.{Item}
use Rattle.story.specs.declared.items.Item.TheVariants as item

pub data Happening : Type 0 where
  -- the frame of this number went from one node to another, and this stands in its head
  frame_sent : (number from to : ℕ) → Facts → Happening
  slot_learnt : LearntEntry → Happening
  reply_given : Replied → Happening
  answer_given : Answered → Happening
  text_restored : (node position : ℕ) → Happening
  -- it came to a node that is down
  frame_lost : (number from to : ℕ) → Facts → Happening
  node_refused : (node : ℕ) → NodeFault → Happening
  node_stopped : (node : ℕ) → NodeFault → Happening
  round_ended : (node : ℕ) → RoundEnd → Happening

abbrev pub sending_of : ℕ → Envelope → Happening
sending_of number frame = frame_sent number frame.from frame.to (facts_of frame.message)

abbrev pub losing_of : ℕ → Envelope → Happening
losing_of number frame = frame_lost number frame.from frame.to (facts_of frame.message)

-- the frame of this number is lost, if there is one
abbrev pub lost_in : List Envelope → ℕ → Option Happening
lost_in frames number = option_map (losing_of number) (slice_get frames number)

-- ---- the frame that comes at a step, if one does
abbrev pub coming_by : Deed → Option ℕ
coming_by (Delivered frame) = Some frame
coming_by other = None

abbrev pub coming_with : Step → Option ℕ
coming_with step = coming_by step.deed

abbrev pub coming_at : List Step → ℕ → Option ℕ
coming_at steps step = option_and_then coming_with (slice_get steps step)

-- ---- what happened by an entry
-- an outcome that only counts entries is nothing by itself: these are. What is lost is the frame that comes
abbrev pub own_happening : List Envelope → Option ℕ → StepOutcome → Option Happening
own_happening frames coming (outcome.Done learnt replies) = None
own_happening frames coming outcome.Answered = None
own_happening frames coming (outcome.Restored node position replies) = Some (text_restored node position)
own_happening frames coming outcome.Lost = option_and_then (lost_in frames) coming
own_happening frames coming (outcome.Refused node fault) = Some (node_refused node fault)
own_happening frames coming (outcome.Stopped node fault) = Some (node_stopped node fault)
own_happening frames coming (outcome.Round node end) = Some (round_ended node end)

-- what happened by this entry of the world's lists, if something did, at a step at which this frame comes, if one does
abbrev pub happening : {S : Type 0} → WorldState S → Option ℕ → Entry → Option Happening
happening w coming (entry.Line i) = None
happening w coming (entry.Step i) = None
happening w coming (entry.Frame i) = option_map (sending_of i) (slice_get w.frames i)
happening w coming (entry.Outcome i) = option_and_then (own_happening w.frames coming) (slice_get w.outcomes i)
happening w coming (entry.Learnt i) = option_map slot_learnt (slice_get w.learnt i)
happening w coming (entry.Replied i) = option_map reply_given (slice_get w.replies i)
happening w coming (entry.Answered i) = option_map answer_given (slice_get w.answers i)

-- the step of which an entry is told
abbrev pub step_at : ℕ → Entry → ℕ
step_at step (entry.Step k) = k
step_at step other = step

-- of which happening an item tells
abbrev pub told_by : Item → Happening
told_by (item.Sent number from to facts) = frame_sent number from to facts
told_by (item.Learnt e) = slot_learnt e.now
told_by (item.Replied e) = reply_given e.now
told_by (item.Answered e) = answer_given e.now
told_by (item.Restored node position) = text_restored node position
told_by (item.Lost number from to facts) = frame_lost number from to facts
told_by (item.Refused node fault) = node_refused node fault
told_by (item.Stopped node fault) = node_stopped node fault
told_by (item.Round node end) = round_ended node end
