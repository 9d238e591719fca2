-- What a work makes of bytes, and how one ends that makes nothing.
use Rattle.std.specs.Prelude.{◌≡◌, ◌≢◌, ℕ, List, [], ◌∷◌, ◌++◌}
use Rattle.mfjson.specs.Document.{IsCanonical, IsDocumentOf}
use Rattle.mfjson.specs.Faults.{IsFaultOf}
use Rattle.mfjson.specs.declared.fault.MfFault.{MfFault}
use Rattle.mfjson.specs.declared.fault.MfFault.TheVariants as document
use Rattle.mfjson.specs.declared.feature.Feature.{Feature}
use Rattle.stable.specs.Memory.{in_memory}
use Rattle.stable.specs.Script.{Script}
use Rattle.stable.specs.Storages.{scripted}
use Rattle.stable.specs.declared.memory.MemStable.{MemStable}
use Rattle.stable.specs.declared.stable.Stable.{Ghosts}
use Rattle.replay.specs.Runs.{EndsOver, ReplayEnds}
use Rattle.events.specs.declared.fault.WorldFault.TheVariants.{NotEmpty}
use Rattle.schedule.specs.Causes.{memory}
use Rattle.schedule.specs.Schedules.{IsParseRefusal, IsScheduleOf, Plan}
use Rattle.schedule.specs.declared.replay_fault.ReplayCause.TheVariants.{World}
use Rattle.schedule.specs.declared.replay_fault.ReplayFault.{ReplayFault}
use Rattle.world_model.specs.Flushing.{IsStart}
use Rattle.cluster.specs.Clusters.{ClusterState}
use Rattle.cluster.specs.declared.transport.Transport.{Ghosts as Transports}
use Rattle.replay.specs.ClusterRuns.{FailsThrough, RunsThrough}
use Rattle.commands.specs.declared.failure.Failure.{Failure}
use Rattle.commands.specs.declared.failure.Failure.TheVariants as failure

-- ---- a check
-- the bytes are a document of a feature, and the text is that feature's canonical document and a line feed
pub record IsChecked (bytes text : List ℕ) : Type 0 where
  pub feature : Feature
  pub is_document : IsDocumentOf bytes feature
  pub canonical : List ℕ
  pub is_canonical : IsCanonical canonical feature
  pub line : text ≡ canonical ++ 10 ∷ []

-- the bytes have this fault, and not for want of memory
pub record IsNoDocument (bytes : List ℕ) (fault : MfFault) : Type 0 where
  pub is_fault : IsFaultOf bytes fault
  pub cause : fault ≢ document.Memory

-- a check ends so on these bytes, and makes nothing of them
abbrev pub CheckStops : List ℕ → Failure → Type 0
CheckStops bytes (failure.Document fault) = IsNoDocument bytes fault
CheckStops bytes other = ⊥

-- over storages of which it is known what their calls may do
module _ {S : Type 0} (storages : Ghosts (Script S)) where
  -- ---- a replay
  -- the replay of the bytes ends with this fault, and not for want of memory
  pub record EndsAtLine (bytes : List ℕ) (fault : ReplayFault) : Type 0 where
    pub ends : ReplayEnds storages bytes fault
    pub cause : fault.cause ≢ memory

  -- it ends so, and makes nothing of them
  abbrev pub ReplayStops : List ℕ → Failure → Type 0
  ReplayStops bytes (failure.Schedule fault) = EndsAtLine bytes fault
  ReplayStops bytes other = ⊥

-- ---- bytes that spell no schedule
-- a run of the bytes ended as they were read, with this fault, and not for want of memory
pub record IsUnreadAt (bytes : List ℕ) (fault : ReplayFault) : Type 0 where
  pub refused : IsParseRefusal bytes fault
  pub cause : fault.cause ≢ memory

abbrev pub IsUnread : List ℕ → Failure → Type 0
IsUnread bytes (failure.Schedule fault) = IsUnreadAt bytes fault
IsUnread bytes other = ⊥

-- over storages that are handed over, which are known by what their own calls may do
module _ {S : Type 0} (storages : Ghosts S) (stores : List S) (plan : Plan) where
  -- the run ends with this fault
  pub record StopsAtLine (fault : ReplayFault) : Type 0 where
    pub ends : EndsOver storages stores plan fault
    pub begun : fault.cause ≢ World NotEmpty
    pub cause : fault.cause ≢ memory

  -- a storage holds a record already
  pub record StopsAtOnce : Type 0 where
    pub fault : ReplayFault
    pub ends : EndsOver storages stores plan fault
    pub used : fault.cause ≡ World NotEmpty

  abbrev pub StopsOver : Failure → Type 0
  StopsOver (failure.Schedule fault) = StopsAtLine fault
  StopsOver failure.NotEmpty = StopsAtOnce
  StopsOver other = ⊥

-- ---- a run through a transport
-- a fresh world of so many nodes, with records in memory, whose frames go through this transport, and no stranger yet
pub record IsJoined {T : Type 0} (nodes : ℕ) (transport : T) (c : ClusterState MemStable T) : Type 0 where
  pub starts : IsStart (scripted in_memory) nodes c.pumped.world
  pub no_strangers : c.pumped.strangers ≡ 0
  pub through : c.transport ≡ transport

-- one that is handed over, which is known by what its calls may do
module _ {T : Type 0} (transports : Transports T) (transport : T) (plan : Plan) where
  -- the text is what the lines lead a fresh cluster to tell
  pub record IsLoopedOver (text : List ℕ) : Type 0 where
    pub start : ClusterState MemStable T
    pub joined : IsJoined plan.nodes transport start
    pub end : ClusterState MemStable T
    pub runs : RunsThrough transports plan start text end

  -- the run ends with this fault, and not for want of memory
  pub record LoopStopsAtLine (fault : ReplayFault) : Type 0 where
    pub start : ClusterState MemStable T
    pub joined : IsJoined plan.nodes transport start
    pub end : ClusterState MemStable T
    pub fails : FailsThrough transports plan start fault end
    pub cause : fault.cause ≢ memory

  abbrev pub LoopStopsOver : Failure → Type 0
  LoopStopsOver (failure.Schedule fault) = LoopStopsAtLine fault
  LoopStopsOver other = ⊥

-- one that is bound once the bytes are read, of which it is known what may be bound for so many nodes, and what its calls may do
module _ {T : Type 0} (binds : ℕ → T → Type 0) (transports : Transports T) where
  -- the bytes spell a schedule, and the text is that of its run through what was bound for its nodes
  pub record IsLooped (bytes text : List ℕ) : Type 0 where
    pub plan : Plan
    pub spelled : IsScheduleOf bytes plan
    pub transport : T
    pub bound : binds plan.nodes transport
    pub runs : IsLoopedOver transports transport plan text

  -- they spell one whose run ends so
  pub record LoopStops (bytes : List ℕ) (failure : Failure) : Type 0 where
    pub plan : Plan
    pub spelled : IsScheduleOf bytes plan
    pub transport : T
    pub bound : binds plan.nodes transport
    pub stops : LoopStopsOver transports transport plan failure
