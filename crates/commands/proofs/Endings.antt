-- How a work ends that makes nothing.
use Rattle.std.proofs.Common.{◌≡◌, ◌≢◌, ◌∙◌, ℕ, List, refl, sym, subst}
use Rattle.stable.specs.Script.{Script}
use Rattle.stable.specs.declared.stable.Stable.{Ghosts}
use Rattle.replay.specs.Runs.{EndsOver, ReplayEnds}
use Rattle.schedule.specs.Causes.{memory}
use Rattle.schedule.specs.Schedules.{IsParseRefusal, Plan}
use Rattle.stable.specs.declared.memory.MemStable.{MemStable}
use Rattle.cluster.specs.Clusters.{ClusterState}
use Rattle.cluster.specs.declared.transport.Transport.{Ghosts as Transports}
use Rattle.replay.specs.ClusterRuns.{FailsThrough, RunsThrough}
use Rattle.stable.specs.Memory.{in_memory}
use Rattle.stable.specs.Storages.{scripted}
use Rattle.world_model.specs.Flushing.{IsStart}
use Rattle.world_model.specs.Worlds.{WorldState}
use Rattle.events.specs.declared.fault.WorldFault.TheVariants as world_fault
use Rattle.schedule.specs.declared.replay_fault.ReplayCause.{ReplayCause}
use Rattle.schedule.specs.declared.replay_fault.ReplayCause.TheVariants.{World}
use Rattle.schedule.specs.declared.replay_fault.ReplayFault.{ReplayFault}
use Rattle.mfjson.specs.Faults.{IsFaultOf}
use Rattle.mfjson.specs.declared.fault.MfFault.{MfFault}
use Rattle.mfjson.specs.declared.fault.MfFault.TheVariants as document
use Rattle.commands.specs.Works.{CheckStops, IsJoined, IsLoopedOver, IsUnread, LoopStopsOver, ReplayStops, StopsOver}
use Rattle.commands.specs.declared.failure.Failure.{Failure}
use Rattle.commands.specs.declared.failure.Failure.TheVariants.{Schedule, Document, NotEmpty, Memory}

-- a fault of a schedule has a line, but for want of memory
abbrev HasLine : ReplayFault → Failure → Type 0
HasLine fault failure = failure ≡ Schedule fault

-- a fault of a document is told, but for want of memory
abbrev HasPlace : MfFault → Failure → Type 0
HasPlace fault failure = failure ≡ Document fault

-- what a document's fault is to the program
pub check_ends : (bytes : List ℕ) (fault : MfFault) (failure : Failure) → IsFaultOf bytes fault
    → (fault ≡ document.Memory → failure ≡ Memory) → (fault ≢ document.Memory → HasPlace fault failure)
    → failure ≢ Memory → CheckStops bytes failure
check_ends bytes fault failure is_fault exhausted place other =
    let named : fault ≢ document.Memory = λ e. other (exhausted e) in
    subst (λ (f : Failure). CheckStops bytes f) (sym (place named))
    (record { is_fault = is_fault; cause = named })

module _ {S : Type 0} (storages : Ghosts (Script S)) where
  -- what the end of a replay is to the program
  pub replay_ends : (bytes : List ℕ) (fault : ReplayFault) (failure : Failure) → ReplayEnds storages bytes fault
      → (fault.cause ≡ memory → failure ≡ Memory) → (fault.cause ≢ memory → HasLine fault failure)
      → failure ≢ Memory → ReplayStops storages bytes failure
  replay_ends bytes fault failure ends exhausted line other =
      let named : fault.cause ≢ memory = λ e. other (exhausted e) in
      subst (λ (f : Failure). ReplayStops storages bytes f) (sym (line named))
      (record { ends = ends; cause = named })

-- what bytes that are no schedule are to the program
pub unread_ends : (bytes : List ℕ) (fault : ReplayFault) (failure : Failure) → IsParseRefusal bytes fault
    → (fault.cause ≡ memory → failure ≡ Memory) → (fault.cause ≢ memory → HasLine fault failure)
    → failure ≢ Memory → IsUnread bytes failure
unread_ends bytes fault failure refused exhausted line other =
    let named : fault.cause ≢ memory = λ e. other (exhausted e) in
    subst (λ (f : Failure). IsUnread bytes f) (sym (line named)) (record { refused = refused; cause = named })

-- what the end of a run over storages is to the program
module _ {S : Type 0} (storages : Ghosts S) (stores : List S) (plan : Plan) where
  -- a fault with a line
  with_line : (fault : ReplayFault) (failure : Failure) → EndsOver storages stores plan fault → fault.cause ≢ memory
      → (fault.cause ≢ World world_fault.NotEmpty → HasLine fault failure) → fault.cause ≢ World world_fault.NotEmpty → StopsOver storages stores plan failure
  with_line fault failure ends named line begun =
      subst (λ (f : Failure). StopsOver storages stores plan f) (sym (line begun))
      (record { ends = ends; begun = begun; cause = named })

  -- by its cause, and whether that is a storage which holds a record
  by_cause : (fault : ReplayFault) (why : ReplayCause) (failure : Failure) → fault.cause ≡ why → EndsOver storages stores plan fault
      → fault.cause ≢ memory → (fault.cause ≡ World world_fault.NotEmpty → failure ≡ NotEmpty)
      → (fault.cause ≢ World world_fault.NotEmpty → HasLine fault failure) → StopsOver storages stores plan failure
  by_cause fault (World world_fault.NotEmpty) failure is ends named used line =
      subst (λ (f : Failure). StopsOver storages stores plan f) (sym (used is)) (record { fault = fault; ends = ends; used = is })
  by_cause fault other failure is ends named used line = with_line fault failure ends named line
      (λ e. let both = sym is ∙ e in cc)

  pub stops_over : (fault : ReplayFault) (failure : Failure) → EndsOver storages stores plan fault
      → (fault.cause ≡ memory → failure ≡ Memory) → (fault.cause ≡ World world_fault.NotEmpty → failure ≡ NotEmpty)
      → (fault.cause ≢ memory → fault.cause ≢ World world_fault.NotEmpty → HasLine fault failure)
      → failure ≢ Memory → StopsOver storages stores plan failure
  stops_over fault failure ends exhausted used line other =
      let named : fault.cause ≢ memory = λ e. other (exhausted e) in
      by_cause fault fault.cause failure refl ends named used (line named)

-- a fresh world whose frames go through a transport
pub is_joined : {T : Type 0} (nodes : ℕ) (w : WorldState MemStable) (transport : T) (c : ClusterState MemStable T)
    → c ≡ record { pumped = record { world = w; strangers = 0 }; transport = transport }
    → IsStart (scripted in_memory) nodes w → IsJoined nodes transport c
is_joined {T} nodes w transport c same starts =
    subst (λ (x : ClusterState MemStable T). IsJoined nodes transport x) (sym same)
    (record { starts = starts; no_strangers = refl; through = refl })

-- what the end of a run through a transport is to the program
module _ {T : Type 0} (transports : Transports T) (transport : T) (plan : Plan) where
  pub is_looped : (text : List ℕ) (nodes : ℕ) (start end : ClusterState MemStable T) → nodes ≡ plan.nodes
      → IsJoined nodes transport start → RunsThrough transports plan start text end → IsLoopedOver transports transport plan text
  is_looped text nodes start end same joined runs = record {
    start = start;
    joined = subst (λ (n : ℕ). IsJoined n transport start) same joined;
    end = end;
    runs = runs;
  }

  pub loop_stops : (nodes : ℕ) (start : ClusterState MemStable T) (fault : ReplayFault) (end : ClusterState MemStable T)
      (failure : Failure) → nodes ≡ plan.nodes → IsJoined nodes transport start → FailsThrough transports plan start fault end
      → (fault.cause ≡ memory → failure ≡ Memory) → (fault.cause ≢ memory → HasLine fault failure)
      → failure ≢ Memory → LoopStopsOver transports transport plan failure
  loop_stops nodes start fault end failure same joined fails exhausted line other =
      let named : fault.cause ≢ memory = λ e. other (exhausted e) in
      subst (λ (f : Failure). LoopStopsOver transports transport plan f) (sym (line named)) (record {
        start = start;
        joined = subst (λ (n : ℕ). IsJoined n transport start) same joined;
        end = end;
        fails = fails;
        cause = named;
      })
