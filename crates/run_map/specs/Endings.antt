-- Where the run of a schedule over fresh records ends, and what a node holds there.
use Rattle.std.specs.Prelude.{◌≡◌, ◌≢◌, ℕ, List, Option, Some, None, option_map}
use Rattle.mfjson.specs.declared.feature.Feature.{Feature}
use Rattle.stable.specs.Script.{Script}
use Rattle.stable.specs.declared.stable.Stable.{Ghosts}
use Rattle.world_model.specs.Flushing.{IsStart}
use Rattle.world_model.specs.Worlds.{WorldState, replica_at}
use Rattle.replay.specs.Runs.{ActionIsDone, EndsAt, Leads, RunIsStopped}
use Rattle.schedule.specs.Causes.{memory}
use Rattle.schedule.specs.Schedules.{Plan, IsScheduleOf}
use Rattle.schedule.specs.declared.schedule.ScheduleLine.{ScheduleLine}
use Rattle.schedule.specs.declared.replay_fault.ReplayFault.{ReplayFault}

module _ {S : Type 0} (storages : Ghosts (Script S)) where
  -- all lines are done; or one can't be, and that isn't for want of memory, and those before it are
  abbrev pub EndsBy : List ScheduleLine → WorldState S → Option ReplayFault → WorldState S → Type 0
  EndsBy lines start None end = Leads storages lines start end
  EndsBy lines start (Some fault) end = EndsAt storages lines start fault end × (fault.cause ≢ memory)

  -- one line is done; or it can't be, and that isn't for want of memory
  abbrev pub LineEndsBy : ScheduleLine → WorldState S → Option ReplayFault → WorldState S → Type 0
  LineEndsBy line start None end = ActionIsDone storages line.action start end
  LineEndsBy line start (Some fault) end = RunIsStopped storages line start fault end × (fault.cause ≢ memory)

  -- the bytes spell a schedule of so many nodes, and its run ends in this world, with the fault of a line or without one
  pub record IsRunOf (bytes : List ℕ) (nodes : ℕ) (fault : Option ReplayFault) (end : WorldState S) : Type 0 where
    pub plan : Plan
    pub spelled : IsScheduleOf bytes plan
    pub counted : nodes ≡ plan.nodes
    pub start : WorldState S
    pub starts : IsStart storages plan.nodes start
    pub ends : EndsBy plan.lines start fault end

-- the features that a node holds; None where there is no such node, and where it is down
abbrev pub fleet_at : {S : Type 0} → WorldState S → ℕ → Option (List Feature)
fleet_at w node = option_map (λ replica. replica.machine.features) (replica_at w node)
