-- Runs: what the lines of a schedule do to a world, one after another, and where they end.
use Rattle.std.specs.Prelude.{◌≡◌, ℕ, ◌≤◌, List, length}
use Rattle.stable.specs.Script.{Script}
use Rattle.stable.specs.Storages.{scripted}
use Rattle.stable.specs.declared.stable.Stable.{Ghosts}
use Rattle.world_model.specs.Flushing.{Delivers, DeliversSome, IsStart}
use Rattle.world_model.specs.Events.{NamesNoFrame, NamesNoNode}
use Rattle.world_model.specs.Rounds.{NamesNoMember, RoundEnds, IsPartOfRound}
use Rattle.world_model.specs.Waiting.{NoneWaits, OneWaits}
use Rattle.world_model.specs.Starting.{AreOver, OneIsUsed}
use Rattle.world_model.specs.Staying.{IsSafeOver, StaysSafe}
use Rattle.world_model.specs.Worlds.{WorldState, Steps}
use Rattle.events.specs.declared.event.Event.{Event}
use Rattle.events.specs.declared.fault.WorldFault.{WorldFault}
use Rattle.events.specs.declared.fault.WorldFault.TheVariants.{NoSuchFrame, NoSuchNode, FlushLimit, Memory, NotEmpty}
use Rattle.world_model.specs.declared.round_end.RoundEnd.{RoundEnd}
use Rattle.world.specs.declared.log.TheConstants.{MOST_DELIVERIES}
use Rattle.replay.specs.LineByLine.{AllDone, EndsWithout, LineStops, StopsAtOne}
use Rattle.schedule.specs.Causes.{memory}
use Rattle.schedule.specs.Schedules.{Plan, IsScheduleOf, IsParseRefusal}
use Rattle.replay.specs.Transcripts.{transcript_of}
use Rattle.schedule.specs.declared.action.Action.{Action}
use Rattle.schedule.specs.declared.action.Action.TheVariants.{Step, Flush, Round}
use Rattle.schedule.specs.declared.schedule.ScheduleLine.{ScheduleLine}
use Rattle.schedule.specs.declared.replay_fault.ReplayCause.TheVariants.{World}
use Rattle.schedule.specs.declared.replay_fault.ReplayFault.{ReplayFault}

-- the transcript of all that happened in a world
abbrev pub told_of : {S : Type 0} → WorldState S → List ℕ
told_of w = transcript_of w.outcomes
    (record { learnt = w.learnt; replies = w.replies; answers = w.answers })

-- the event names no frame and no node that isn't there
pub record NamesWhatIsThere {S : Type 0} (w : WorldState S) (event : Event) : Type 0 where
  pub frame : ¬ (NamesNoFrame (length w.frames) event)
  pub node : ¬ (NamesNoNode (length w.nodes) event)

-- over storages of which it is known what their calls may do
module _ {S : Type 0} (storages : Ghosts (Script S)) where
  -- what a line asks for is done: the event happens, or frames are delivered until none waits, or a round comes to an end
  abbrev pub ActionIsDone : Action → WorldState S → WorldState S → Type 0
  ActionIsDone (Step event) old new = NamesWhatIsThere old event
      × Steps storages old event new
  ActionIsDone Flush old new = (n : ℕ) × (n ≤ MOST_DELIVERIES)
      × Delivers storages old n new × NoneWaits new.waiting
  ActionIsDone (Round node members) old new =
      (end : RoundEnd) × RoundEnds storages old node members end new

  -- the lines are done, one after another
  abbrev pub Leads : List ScheduleLine → WorldState S → WorldState S → Type 0
  Leads = AllDone ActionIsDone

  -- as many frames are delivered as one flush may, and one still waits
  pub record MeetsLimit (old new : WorldState S) : Type 0 where
    pub delivers : Delivers storages old MOST_DELIVERIES new
    pub one_waits : OneWaits new.waiting

  -- fewer are delivered, and one still waits
  pub record RunIsInterrupted (old new : WorldState S) : Type 0 where
    pub delivers : DeliversSome storages old MOST_DELIVERIES new
    pub one_waits : OneWaits new.waiting

  -- why a world does not do what a line asks for, and what it is then: as it was, but for the frames that a flush has
  -- delivered, and the steps that a round has made
  abbrev pub ActionIsRefused : Action → WorldState S → WorldFault → WorldState S → Type 0
  ActionIsRefused (Step event) old NoSuchFrame new = NamesNoFrame (length old.frames) event × (new ≡ old)
  ActionIsRefused (Step event) old NoSuchNode new = NamesNoNode (length old.nodes) event × (new ≡ old)
  ActionIsRefused (Step event) old Memory new = NamesWhatIsThere old event × (new ≡ old)
  ActionIsRefused Flush old FlushLimit new = MeetsLimit old new
  ActionIsRefused Flush old Memory new = RunIsInterrupted old new
  ActionIsRefused (Round node members) old NoSuchNode new = NamesNoMember (length old.nodes) node members × (new ≡ old)
  ActionIsRefused (Round node members) old Memory new = IsPartOfRound storages old node members new
  ActionIsRefused _ old _ new = ⊥

  -- a line isn't done
  abbrev pub RunIsStopped : ScheduleLine → WorldState S → ReplayFault → WorldState S → Type 0
  RunIsStopped = LineStops ActionIsRefused

  -- the lines before one are done, and it is not
  abbrev pub EndsAt : List ScheduleLine → WorldState S → ReplayFault → WorldState S → Type 0
  EndsAt = StopsAtOne ActionIsDone ActionIsRefused

  -- why a run has no transcript, and the world in which it ends: a line isn't done, or at the last one memory is wanting
  -- for the text
  abbrev pub RunEnds : Plan → WorldState S → ReplayFault → WorldState S → Type 0
  RunEnds = EndsWithout ActionIsDone ActionIsRefused

  -- the lines lead to a world of which the text is the transcript
  pub record RunsTo (IsHonest : S → Type 0) (plan : Plan) (start : WorldState S) (text : List ℕ) : Type 0 where
    pub end : WorldState S
    pub led : Leads plan.lines start end
    pub told : text ≡ told_of end
    -- as long as every storage inside is honest the protocol has held, and one list of commands explains all that is
    -- told
    pub safe : StaysSafe storages IsHonest end

  -- the run ends in a world without a transcript
  pub record RunFails (IsHonest : S → Type 0) (plan : Plan) (start : WorldState S) (fault : ReplayFault) : Type 0 where
    pub end : WorldState S
    pub ends : RunEnds plan start fault end
    pub safe : StaysSafe storages IsHonest end

  -- the bytes spell a schedule, whose lines lead from the start to a world of which the text is the transcript
  pub record IsReplay (bytes text : List ℕ) : Type 0 where
    pub plan : Plan
    pub spelled : IsScheduleOf bytes plan
    pub start : WorldState S
    pub starts : IsStart storages plan.nodes start
    pub end : WorldState S
    pub led : Leads plan.lines start end
    pub told : text ≡ told_of end
    -- every storage has been honest to the end; the protocol has held, and one list of commands explains all that is
    -- told
    pub safe : IsSafeOver storages end

  -- why there is no transcript of the bytes: they were not read as a schedule, or memory was wanting, told at their first
  -- line, as it is where no world can be made, or the run ended, in a world as safe as that of a transcript
  pub data ReplayEnds (bytes : List ℕ) (fault : ReplayFault) : Type 0 where
    not_read : IsParseRefusal bytes fault → ReplayEnds bytes fault
    not_begun : (plan : Plan) → IsScheduleOf bytes plan → fault.cause ≡ memory → fault.line ≡ plan.first
        → ReplayEnds bytes fault
    not_run : (plan : Plan) → IsScheduleOf bytes plan → (start end : WorldState S)
        → IsStart storages plan.nodes start → RunEnds plan start fault end → IsSafeOver storages end
        → ReplayEnds bytes fault

-- ---- runs over storages that are handed over, which are known by what their own calls may do
module _ {S : Type 0} (storages : Ghosts S) where
  -- each node starts over its own of these, and the lines lead from there to a world of which the text is the transcript
  pub record IsRunOver (stores : List S) (plan : Plan) (text : List ℕ) : Type 0 where
    pub start : WorldState S
    pub starts : IsStart (scripted storages) plan.nodes start
    pub over : AreOver storages stores start.nodes
    pub runs : RunsTo (scripted storages) storages.IsHonest plan start text

  -- why there is no transcript: a storage holds a record already, or memory was wanting, as where no world can be made, which
  -- are both told at the first line, or the run ended
  pub data EndsOver (stores : List S) (plan : Plan) (fault : ReplayFault) : Type 0 where
    is_used : OneIsUsed storages stores → fault.cause ≡ World NotEmpty → fault.line ≡ plan.first → EndsOver stores plan fault
    no_world : fault.cause ≡ memory → fault.line ≡ plan.first → EndsOver stores plan fault
    no_end : (start : WorldState S) → IsStart (scripted storages) plan.nodes start → AreOver storages stores start.nodes
        → RunFails (scripted storages) storages.IsHonest plan start fault → EndsOver stores plan fault
