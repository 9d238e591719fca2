-- A node that restarts has forgotten what was not in its records, and begins where they say.
use Rattle.std.proofs.Common.{◌≡◌, ℕ, zero, inl, inr, Option, Some, None, IfSome, Result, Ok, Err, option_map, refl, sym, ap, ◌∙◌, subst}
use Rattle.synod.specs.Acts.{Local}
use Rattle.stable.specs.Records.{Records, no_records}
use Rattle.stable.specs.Script.{Script}
use Rattle.stable.specs.declared.stable.Stable.{Ghosts}
use Rattle.stable.specs.Storages.{IsLawful}
use Rattle.sessions.specs.declared.command.Command.{Command}
use Rattle.wire.specs.RecordForms.{checkpoint_bytes}
use Rattle.acceptor.specs.Accepting.{floor_of}
use Rattle.node_model.specs.declared.fault.NodeFault.{NodeFault}
use Rattle.node_model.specs.Loading.{IsLoaded, Restarts}
use Rattle.node_model.specs.Replicas.{ReplicaState, position}
use Rattle.node_model.specs.Protocol.{RecordsAgree, HoldsRecords, ReplicaStands}
use Rattle.node_model.specs.States.{NodeState}
use Rattle.node_model.proofs.AllowedLoading.{blank_at, loaded_holds, loaded_stands}
use Rattle.node_model.proofs.Learnt.{loaded_begins}
use Rattle.world_model.specs.Reaching.{NodeStands}

-- what stands for a node that is up
abbrev Up : Records → Local Command → ReplicaState → Type 0
Up records x m = HoldsRecords m records × ReplicaStands m x

-- the slot at which a node begins; one that is down is nowhere
abbrev pub begins_at : Option ReplicaState → ℕ
begins_at None = zero
begins_at (Some m) = position m

module _ {S : Type 0} {contents : Script S → Records} where
  -- a node whose records are the same, and which holds what they leave where it is up
  pub up_again : (old new : NodeState (Script S)) (x : Local Command) (o : Option ReplicaState) → new.up ≡ o
      → contents new.storage ≡ contents old.storage → RecordsAgree (contents old.storage) x.records → x.replica ≡ blank_at (begins_at o)
      → IfSome o (IsLoaded (contents old.storage) old.id old.nodes) → NodeStands contents new x
  up_again old new x None up same agree none loads = record {
    records = subst (λ (c : Records). RecordsAgree c x.records) (sym same) agree;
    up = subst (λ (o : Option ReplicaState). IfSome o (Up (contents new.storage) x)) (sym up) tt;
  }
  up_again old new x (Some m) up same agree none loads =
      let holds : HoldsRecords m (contents old.storage) =
      loaded_holds (contents old.storage) old.id old.nodes m loads agree.acceptor agree.round agree.holds in
      let stands : ReplicaStands m x =
      loaded_stands (contents old.storage) old.id old.nodes m loads agree.acceptor agree.round x agree.holds agree.stands none in
      record {
        records = subst (λ (c : Records). RecordsAgree c x.records) (sym same) agree;
        up = subst (λ (o : Option ReplicaState). IfSome o (Up (contents new.storage) x)) (sym up)
            (subst (λ (c : Records). HoldsRecords m c) (sym same) holds, stands);
      }

-- what is none once it is told otherwise is none
none_before : {A B : Type 0} (f : A → B) (o : Option A) → option_map f o ≡ None → o ≡ None
none_before f None e = refl
none_before f (Some x) e = absurd cc

-- one that comes up without records begins at slot 0
pub begins_at_first : (id nodes : ℕ) (o : Option ReplicaState) → IfSome o (IsLoaded no_records id nodes) → begins_at o ≡ zero
begins_at_first id nodes None loads = refl
begins_at_first id nodes (Some m) loads =
    let says = loads.acceptor in
    loaded_begins no_records id nodes m loads
    ∙ (says.floor ∙ ap floor_of (none_before checkpoint_bytes says.checkpointed (sym says.checkpoint_record)))

-- ---- a restart
abbrev pub failed_with : NodeFault → Result (Unit {0}) NodeFault
failed_with f = Err f

-- it has loaded its records, or it is down
pub loads_or_down : {S : Type 0} {storages : Ghosts (Script S)} (old new : NodeState (Script S)) (result : Result (Unit {0}) NodeFault)
    → Restarts storages old result new → storages.IsHonest new.storage
    → IfSome new.up (IsLoaded (storages.contents old.storage) old.id old.nodes)
loads_or_down old new (Ok x) h honest = h.loads honest
loads_or_down {S} {storages} old new (Err f) h honest =
    subst (λ (o : Option ReplicaState). IfSome o (IsLoaded (storages.contents old.storage) old.id old.nodes)) (sym h.down) tt

module _ {S : Type 0} {storages : Ghosts (Script S)} (laws : IsLawful storages) where
  SameAndHonest : NodeState (Script S) → NodeState (Script S) → Type 0
  SameAndHonest old new = (storages.contents new.storage ≡ storages.contents old.storage) × storages.IsHonest old.storage

  read_only : (old new : NodeState (Script S)) → storages.reads old.storage new.storage → storages.IsHonest new.storage
      → SameAndHonest old new
  unfolding SameAndHonest
  read_only old new h honest = (laws.reads_contents old.storage new.storage h honest, laws.reads_honest old.storage new.storage h honest)

  restart_reads : (old new : NodeState (Script S)) (result : Result (Unit {0}) NodeFault) → Restarts storages old result new
      → storages.IsHonest new.storage → SameAndHonest old new
  unfolding SameAndHonest
  restart_reads old new (Ok x) h honest = read_only old new (laws.looks_reads _ _ h.up.1) honest
  restart_reads old new (Err f) h honest = elim h.other [
    | inl device ↦
        let failed = h.device (ap failed_with device) in
        (laws.read_fails_contents old.storage new.storage failed honest, laws.read_fails_honest old.storage new.storage failed honest)
    | inr other ↦ read_only old new (laws.looks_reads _ _ other.1) honest
  ]

  -- the records are read, and left as they are
  pub restart_contents : (old new : NodeState (Script S)) (result : Result (Unit {0}) NodeFault) → Restarts storages old result new
      → storages.IsHonest new.storage → storages.contents new.storage ≡ storages.contents old.storage
  unfolding SameAndHonest
  restart_contents old new result h honest = (restart_reads old new result h honest).0

  pub restart_honest : (old new : NodeState (Script S)) (result : Result (Unit {0}) NodeFault) → Restarts storages old result new
      → storages.IsHonest new.storage → storages.IsHonest old.storage
  unfolding SameAndHonest
  restart_honest old new result h honest = (restart_reads old new result h honest).1

  pub restart_stands : (old new : NodeState (Script S)) (result : Result (Unit {0}) NodeFault) (x : Local Command)
      → Restarts storages old result new
      → storages.IsHonest new.storage → NodeStands storages.contents old x
      → NodeStands storages.contents new (record x { replica = blank_at (begins_at new.up) })
  unfolding SameAndHonest
  restart_stands old new result x h honest stands =
      up_again old new (record x { replica = blank_at (begins_at new.up) }) new.up refl (restart_reads old new result h honest).0
      stands.records refl
      (loads_or_down old new result h honest)
