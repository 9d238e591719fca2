-- What a node holds that has just loaded its records.
use Rattle.std.specs.Prelude.{◌≡◌, ℕ, ◌≤◌, ◌⊎◌, List, Option, Some, None, Result, IsSome, IfSome, MatchOption, OnOk, OnErr}
use Rattle.std.specs.Prelude.{IfErr, IsErrOf}
use Rattle.std.specs.Option.{ForSome}
use Rattle.stable.specs.Records.{Records}
use Rattle.stable.specs.declared.key.Key.TheVariants as key
use Rattle.stable.specs.declared.stable.Stable.{Ghosts}
use Rattle.acceptor.specs.Accepting.{RecordsSay}
use Rattle.acceptor.specs.Forms.{HasDamagedRecord}
pub use Rattle.acceptor.specs.Loading.{IsBaseOf, MachineBeginsWith}
use Rattle.synod.specs.declared.slot.TheConstants.{SLOTS}
use Rattle.learner.specs.Learning.{unlearnt_from}
use Rattle.proposer.specs.Proposing.{Proposing, loaded}
use Rattle.wire.specs.RecordForms.{IsRoundRecord}
use Rattle.node_model.specs.Replicas.{ReplicaState}
use Rattle.node_model.specs.States.{NodeState}
use Rattle.node_model.specs.declared.fault.NodeFault.{NodeFault}
use Rattle.node_model.specs.declared.fault.NodeFault.TheVariants as fault

-- what a node holds is that of this node, of so many
pub record IsReplicaOf (id nodes : ℕ) (m : ReplicaState) : Type 0 where
  pub number : m.id ≡ id
  pub of_all : m.nodes ≡ nodes
  pub learner : m.learner.nodes ≡ nodes
  pub proposer : (m.proposer.id ≡ id) × (m.proposer.nodes ≡ nodes)

-- nothing is learnt, nothing waits, no campaign is on its way, and nothing is fetched
pub record IsFresh (id nodes : ℕ) (m : ReplicaState) : Type 0 where
  pub learner : m.learner ≡ unlearnt_from nodes m.learner.first
  pub first_in_log : m.learner.first ≤ SLOTS
  pub proposer : m.proposer ≡ loaded id nodes m.proposer.round
  pub fetching : m.fetching ≡ None

-- a proposer that has just loaded the record of its round, if there is one
abbrev pub LoadsRound : Option (List ℕ) → ℕ → ℕ → Proposing → Type 0
LoadsRound None id nodes p = p ≡ loaded id nodes 0
LoadsRound (Some bytes) id nodes p = IsRoundRecord bytes p.round × (p ≡ loaded id nodes p.round)

-- the records say what it has promised and voted for, its round, and with which commands it begins; the rest is as at the start
pub record IsLoaded (records : Records) (id nodes : ℕ) (m : ReplicaState) : Type 0 where
  pub number : m.id ≡ id
  pub of_all : m.nodes ≡ nodes
  pub acceptor : RecordsSay records m.acceptor
  pub learner : m.learner ≡ unlearnt_from nodes m.acceptor.floor
  pub proposer : LoadsRound (records key.Round) id nodes m.proposer
  pub machine : MachineBeginsWith records m.machine
  pub fetching : m.fetching ≡ None

-- the record of the round is that of no round
abbrev pub HasDamagedRound : Records → Type 0
HasDamagedRound records = MatchOption (records key.Round) ⊥ (λ bytes. (round : ℕ) → ¬ IsRoundRecord bytes round)

-- a key that is no key's spelling, or a record that is not of its form
abbrev pub IsDamaged : {S : Type 0} → Ghosts S → S → Type 0
IsDamaged storages s =
    storages.HasStrayKey s ⊎ HasDamagedRecord (storages.contents s) ⊎ HasDamagedRound (storages.contents s)

-- what a restart makes of a node: it holds what its records leave, or it is down
pub record Restarts {S : Type 0} (storages : Ghosts S)
    (old : NodeState S) (result : Result (Unit {0}) NodeFault) (new : NodeState S) : Type 0 where
  pub leaves : new ≡ record old { storage = new.storage; up = new.up }
  pub own : ForSome new.up (IsReplicaOf old.id old.nodes)
  -- whatever the storage is: what was not in the records is gone
  pub fresh : ForSome new.up (IsFresh old.id old.nodes)
  pub up : OnOk result (IsSome new.up × storages.looks old.storage new.storage)
  pub loads : storages.IsHonest new.storage → OnOk result
      (IfSome new.up (IsLoaded (storages.contents old.storage) old.id old.nodes))
  pub down : OnErr result (new.up ≡ None)
  -- what is damaged is told so, and nothing else is
  pub sound : storages.IsHonest new.storage → OnOk result (¬ (IsDamaged storages old.storage))
  pub damaged : storages.IsHonest new.storage → IsErrOf result fault.Damaged → IsDamaged storages old.storage
  pub device : IsErrOf result fault.Device → storages.read_fails old.storage new.storage
  pub other : IfErr result (λ f. (f ≡ fault.Device)
      ⊎ (((f ≡ fault.Memory) ⊎ (f ≡ fault.Damaged)) × storages.looks old.storage new.storage))

-- the node is this one, of so many
pub record IsMember {S : Type 0} (id nodes : ℕ) (n : NodeState S) : Type 0 where
  pub number : n.id ≡ id
  pub of_all : n.nodes ≡ nodes
  pub up : ForSome n.up (IsReplicaOf id nodes)
