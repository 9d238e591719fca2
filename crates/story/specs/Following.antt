-- The run of a schedule as a ledger has it: the lines that it came to, their steps, and where they led.
use Rattle.std.specs.Prelude.{◌≡◌, ◌⊎◌, ℕ, List, [], ◌∷◌, ◌++◌, length, Bool, true, false, Option, Some, None}
use Rattle.stable.specs.Script.{Script}
use Rattle.stable.specs.declared.stable.Stable.{Ghosts}
use Rattle.world_model.specs.Flushing.{IsStart}
use Rattle.world_model.specs.Waiting.{IsLowestWaiting, NoneWaits, OneWaits}
use Rattle.world_model.specs.Worlds.{WorldState, DeliversFrame}
use Rattle.replay.specs.Runs.{ActionIsDone, RunIsStopped}
use Rattle.schedule.specs.Causes.{memory}
use Rattle.schedule.specs.Schedules.{Plan, IsParseRefusal, IsScheduleOf}
use Rattle.schedule.specs.declared.replay_fault.ReplayFault.{ReplayFault}
use Rattle.schedule.specs.declared.schedule.ScheduleLine.{ScheduleLine}
use Rattle.story.specs.declared.deeds.Deed.TheVariants.{Delivered, Ended}
use Rattle.story.specs.declared.ledger.LineBegin.{LineBegin}
use Rattle.story.specs.declared.ledger.Step.{Step}
use Rattle.story.specs.Noting.{LineIsNoted, step_of}

-- nothing is told of a run: this is the first fault of the bytes, which are no schedule; or memory ran out
abbrev pub IsUntold : List ℕ → ReplayFault → Type 0
IsUntold bytes fault = IsParseRefusal bytes fault ⊎ (fault.cause ≡ memory)

module _ {S : Type 0} (storages : Ghosts (Script S)) where
  -- one line is done, or it can't be
  abbrev pub LineEndsBy : ScheduleLine → WorldState S → Option ReplayFault → WorldState S → Type 0
  LineEndsBy line start None end = ActionIsDone storages line.action start end
  LineEndsBy line start (Some fault) end = RunIsStopped storages line start fault end

  -- the lines are done one after another, or the last one can't be. Behind what was noted before stands of each line with which
  -- step it begins, and what is noted of it
  pub data AreNoted (others : List LineBegin) (before : List Step) (start : WorldState S)
      : List ScheduleLine → List LineBegin → List Step → Option ReplayFault → WorldState S → Type 0 where
    none : AreNoted others before start [] others before None start
    next : (lines : List ScheduleLine) (begins : List LineBegin) (steps : List Step) (now : WorldState S) (line : ScheduleLine)
        (more : List Step) (fault : Option ReplayFault) (new : WorldState S)
        → AreNoted others before start lines begins steps None now
        → LineEndsBy line now fault new → LineIsNoted storages line.action fault now steps more new
        → AreNoted others before start (lines ++ line ∷ []) (begins ++ record { number = line.number; step = length steps } ∷ [])
        (steps ++ more) fault new

  -- the lines are done from the first on, to the last or to the first that can't be, and those that were come to are noted
  pub record AreFollowed (lines : List ScheduleLine) (others begins : List LineBegin) (before steps : List Step)
      (start : WorldState S) (fault : Option ReplayFault) (end : WorldState S) : Type 0 where
    pub reached : List ScheduleLine
    pub left : List ScheduleLine
    pub parts : lines ≡ reached ++ left
    pub all : fault ≡ None → left ≡ []
    pub noted : AreNoted others before start reached begins steps fault end

  -- the bytes spell a schedule; its run begins over fresh records, and ends in this world, with the fault of a line or without
  -- one. The lines are the schedule's: the first, which says how many nodes there are, and each that the run came to. The steps
  -- are those of the lines, and its end
  pub record IsRunOf (bytes : List ℕ) (lines : List LineBegin) (steps : List Step) (fault : Option ReplayFault)
      (end : WorldState S) : Type 0 where
    pub plan : Plan
    pub spelled : IsScheduleOf bytes plan
    pub start : WorldState S
    pub starts : IsStart storages plan.nodes start
    pub before : List Step
    pub followed : AreFollowed plan.lines (record { number = plan.first; step = 0 } ∷ []) lines [] before start fault end
    pub over : steps ≡ before ++ step_of Ended end ∷ []

  -- a flush delivers the lowest frame that waits, notes that, and goes on; or it is over: none waits, or memory is wanting at its
  -- line
  abbrev pub ComesNext : ℕ → WorldState S → List Step → Bool → Option ReplayFault → WorldState S → List Step → Type 0
  ComesNext line old before true None new after = (k : ℕ) × IsLowestWaiting old.waiting k × DeliversFrame storages old k new
      × (after ≡ before ++ step_of (Delivered k) new ∷ [])
  ComesNext line old before true (Some fault) new after = ⊥
  ComesNext line old before false None new after = (new ≡ old) × NoneWaits old.waiting × (after ≡ before)
  ComesNext line old before false (Some fault) new after = (fault.line ≡ line) × (fault.cause ≡ memory) × (new ≡ old)
      × OneWaits old.waiting × (after ≡ before)
