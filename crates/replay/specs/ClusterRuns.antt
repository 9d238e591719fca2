-- Runs through a transport: what the lines of a schedule do to a cluster, and what is told of it.
use Rattle.std.specs.Prelude.{◌≡◌, ◌⊎◌, ℕ, List, ◌++◌, codes, decimal, Result, Ok, Err}
use Rattle.stable.specs.Memory.{in_memory}
use Rattle.stable.specs.Script.{Script}
use Rattle.stable.specs.Storages.{scripted}
use Rattle.stable.specs.declared.memory.MemStable.{MemStable}
use Rattle.stable.specs.declared.stable.Stable.{Ghosts}
use Rattle.world_model.specs.Staying.{IsSafeOver}
use Rattle.events.specs.declared.fault.WorldFault.{WorldFault}
use Rattle.events.specs.declared.fault.WorldFault.TheVariants.{FlushLimit, Memory}
use Rattle.cluster.specs.Clusters.{ClusterState, HasPassed, sendings}
use Rattle.cluster.specs.Passages.{Passage}
use Rattle.cluster.specs.Pumps.{Pumps}
use Rattle.cluster.specs.declared.transport.Transport.{Ghosts as Transports}
use Rattle.replay.specs.LineByLine.{AllDone, EndsWithout}
use Rattle.replay.specs.Runs.{ActionIsDone, ActionIsRefused, told_of}
use Rattle.schedule.specs.Schedules.{Plan}
use Rattle.schedule.specs.declared.action.Action.{Action}
use Rattle.schedule.specs.declared.action.Action.TheVariants.{Step, Flush, Round}
use Rattle.schedule.specs.declared.replay_fault.ReplayFault.{ReplayFault}

-- ---- what is told
-- how many datagrams came that weren't sent to the node to which they came
abbrev pub strangers_line : ℕ → List ℕ
strangers_line count = codes "strangers " ++ decimal count ++ codes "\n"

-- the transcript of all that happened in the world of a cluster, and its strangers
abbrev pub text_of : {S T : Type 0} → ClusterState S T → List ℕ
text_of c = told_of c.pumped.world ++ strangers_line c.pumped.strangers

-- ---- what the lines do
-- why a pump ends early
abbrev pub IsPumpFault : WorldFault → Type 0
IsPumpFault fault = (fault ≡ FlushLimit) ⊎ (fault ≡ Memory)

-- the storages of a cluster's world
abbrev pub storages : Ghosts (Script MemStable)
storages = scripted in_memory

-- over a transport of which it is known what its calls may do
module _ {T : Type 0} (transport : Transports T) where
  abbrev pub At : Type 0
  At = ClusterState MemStable T

  -- the frames that the world sent on the way went through the transport, in order, and nothing else; no stranger came
  pub record SendsOn (old new : At) : Type 0 where
    pub sent : HasPassed transport old.transport (sendings old.pumped.world new.pumped.world) new.transport
    pub strangers : new.pumped.strangers ≡ old.pumped.strangers

  -- a pump came to this
  pub record PumpsTo (old : At) (result : Result ℕ WorldFault) (new : At) : Type 0 where
    pub passed : List Passage
    pub pumps : Pumps storages old.pumped passed result new.pumped
    pub through : HasPassed transport old.transport passed new.transport

  -- what a line asks for is done: a pump comes to its end, or the world does what any world does, and sends on its frames
  abbrev pub DoneThrough : Action → At → At → Type 0
  DoneThrough Flush old new = (made : ℕ) × PumpsTo old (Ok made) new
  DoneThrough action old new = ActionIsDone storages action old.pumped.world new.pumped.world × SendsOn old new

  -- why it isn't done, and what there is then: what was there, but for what a pump has done, and the steps that a round has
  -- made
  abbrev pub RefusedThrough : Action → At → WorldFault → At → Type 0
  RefusedThrough Flush old fault new = PumpsTo old (Err fault) new × IsPumpFault fault
  RefusedThrough (Step event) old fault new =
      ActionIsRefused storages (Step event) old.pumped.world fault new.pumped.world × (new ≡ old)
  RefusedThrough (Round node members) old fault new =
      ActionIsRefused storages (Round node members) old.pumped.world fault new.pumped.world × SendsOn old new

  -- ---- runs
  -- the lines lead to a cluster of which this is the text; its world is safe
  pub record RunsThrough (plan : Plan) (start : At) (text : List ℕ) (end : At) : Type 0 where
    pub led : AllDone DoneThrough plan.lines start end
    pub told : text ≡ text_of end
    pub safe : IsSafeOver storages end.pumped.world

  -- the run ends without a text, in a world that is safe as well
  pub record FailsThrough (plan : Plan) (start : At) (fault : ReplayFault) (end : At) : Type 0 where
    pub ends : EndsWithout DoneThrough RefusedThrough plan start fault end
    pub safe : IsSafeOver storages end.pumped.world
