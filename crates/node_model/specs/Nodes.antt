-- One node: its records, and what it holds while it is up.
use Rattle.std.specs.Prelude.{◌≡◌, ℕ, ◌⊎◌, List, [], length, Some, None, Result, Ok, Err, IfSome, IfOk, IfErr, OnOk, IsErrOf, MatchBool}
use Rattle.stable.specs.declared.stable.Stable.{Ghosts}
use Rattle.store.specs.Answers.{IsAnswer}
use Rattle.store.specs.declared.query.Query.{Query}
use Rattle.sessions.specs.Meaning.{Answers}
use Rattle.sessions.specs.Snapshots.{IsSnapshot}
use Rattle.sessions.specs.declared.command.Command.{Command}
use Rattle.acceptor.specs.Accepting.{OptionalWrite, HasWritten, HasFailed}
use Rattle.node_model.specs.declared.fault.NodeFault.{NodeFault}
use Rattle.node_model.specs.declared.fault.NodeFault.TheVariants as fault
use Rattle.node_model.specs.declared.input.Input.{Input}
use Rattle.node_model.specs.declared.input.Input.TheVariants as input
use Rattle.node_model.specs.Composition.{IsMeaningOf, GoesOnFrom, RestoresFrom, executed_from}
use Rattle.node_model.specs.Faults.{is_stop_fault}
use Rattle.node_model.specs.Fetching.{text_with}
use Rattle.node_model.specs.Replicas.{ReplicaState, position, refuses, Ignores}
use Rattle.node_model.specs.Outputs.{Response, silence}
use Rattle.node_model.specs.Taking.{Writes, Takes}
pub use Rattle.node_model.specs.States.{NodeState}

-- ---- the one write
-- the storage is what such a write made of it; where none is made it is at most read
pub record HasMade {S : Type 0} (storages : Ghosts S) (old new : S) (Writes : OptionalWrite → Type 0) : Type 0 where
  pub write : OptionalWrite
  pub made : Writes write
  pub leaves : HasWritten storages.reads storages.changes old new write

-- the storage is what a failure on such a write made of it
pub record HasFailedToMake {S : Type 0} (storages : Ghosts S) (old new : S) (Writes : OptionalWrite → Type 0) : Type 0 where
  pub write : OptionalWrite
  pub made : Writes write
  pub leaves : HasFailed storages.fails old new write

-- what a call that makes such a write leaves of the storage, by its result: the write is made, the device failed on it, or memory was
-- wanting, before the write or after it
pub record Made {S T : Type 0} (storages : Ghosts S) (old : S) (result : Result T NodeFault) (new : S)
    (Writes : OptionalWrite → Type 0) : Type 0 where
  pub written : OnOk result (HasMade storages old new Writes)
  pub device : IsErrOf result fault.Device → HasFailedToMake storages old new Writes
  pub memory : IsErrOf result fault.Memory → storages.reads old new ⊎ HasMade storages old new Writes

-- ---- an input comes to what a node holds while it is up
-- what that and the storage are then; after a failure of the device or of memory it is dropped
pub record ReplicaSteps {S : Type 0} (storages : Ghosts S) (old : S) (m : ReplicaState) (input : Input)
    (result : Result Response NodeFault) (n : ReplicaState) (new : S) : Type 0 where
  pub takes : IfOk result (λ said. Takes m input n said)
  pub made : Made storages old result new (Writes m input)
  -- what is to be refused is refused, and then nothing changes
  pub refused : IfSome (refuses m input) (λ f. (result ≡ Err f) × (n ≡ m) × (new ≡ old))
  pub err : IfErr result (λ f. (f ≡ fault.Device) ⊎ (f ≡ fault.Memory) ⊎ (refuses m input ≡ Some f))
  -- nothing comes of what is to be ignored
  pub ignored : Ignores m input → (result ≡ Ok silence) × (n ≡ m) × (new ≡ old)

-- ---- an input comes to a node that is up
-- it is taken, and the one write that it makes is made
pub record TakesInput {S : Type 0} (storages : Ghosts S)
    (old : NodeState S) (m : ReplicaState) (input : Input) (said : Response) (new : NodeState S) : Type 0 where
  pub replica : ReplicaState
  pub takes : Takes m input replica said
  pub made : HasMade storages old.storage new.storage (Writes m input)
  pub leaves : new ≡ record old { storage = new.storage; up = Some replica }

-- it is refused, and nothing changes
pub record RefusesInput {S : Type 0} (old : NodeState S) (m : ReplicaState) (input : Input) (f : NodeFault)
    (new : NodeState S) : Type 0 where
  pub refused : refuses m input ≡ Some f
  pub leaves : new ≡ old

-- what is left of the storage where the node goes down: the device failed on the write that the input
-- makes, or memory was wanting, and the write was made or not
abbrev pub StorageStops : {S : Type 0} → Ghosts S → S → ReplicaState → Input → NodeFault → S → Type 0
StorageStops storages old m input fault.Device new = HasFailedToMake storages old new (Writes m input)
StorageStops storages old m input fault.Memory new =
    storages.reads old new ⊎ HasMade storages old new (Writes m input)
StorageStops storages old m input fault.Down new = ⊥
StorageStops storages old m input fault.LogFull new = ⊥
StorageStops storages old m input fault.RoundsUsedUp new = ⊥
StorageStops storages old m input fault.QueueFull new = ⊥
StorageStops storages old m input fault.TooLong new = ⊥
StorageStops storages old m input fault.NothingNew new = ⊥
StorageStops storages old m input fault.Damaged new = ⊥

-- the node goes down
pub record StopsOnInput {S : Type 0} (storages : Ghosts S)
    (old : NodeState S) (m : ReplicaState) (input : Input) (f : NodeFault) (new : NodeState S) : Type 0 where
  pub storage : StorageStops storages old.storage m input f new.storage
  pub leaves : new ≡ record old { storage = new.storage; up = None }

-- what a node makes of an input
pub record NodeSteps {S : Type 0} (storages : Ghosts S)
    (old : NodeState S) (input : Input) (result : Result Response NodeFault) (new : NodeState S) : Type 0 where
  -- one that is down refuses every input
  pub down : old.up ≡ None → (result ≡ Err fault.Down) × (new ≡ old)
  -- one that is up takes it, refuses it or goes down on it
  pub taken : IfSome old.up (λ m. IfOk result (λ said. TakesInput storages old m input said new))
  pub refused : IfSome old.up (λ m. IfErr result (λ f. MatchBool (is_stop_fault f)
      (StopsOnInput storages old m input f new) (RefusesInput old m input f new)))
  -- what is to be ignored is ignored
  pub ignored : IfSome old.up (λ m. Ignores m input → (result ≡ Ok silence) × (new ≡ old))
  -- what is to be refused is refused
  pub refuses_ : IfSome old.up (λ m. IfSome (refuses m input) (λ f. result ≡ Err f))

-- what a node answers to a query: its position, and the text over what its machine holds
pub record NodeAnswers {S : Type 0} (node : NodeState S) (query : Query) (result : Result (ℕ × List ℕ) NodeFault) : Type 0 where
  pub down : node.up ≡ None → result ≡ Err fault.Down
  pub position_ : IfSome node.up (λ m. IfOk result (λ answer. answer.0 ≡ position m))
  pub answer_ : IfSome node.up (λ m. IfOk result (λ answer. IsAnswer m.machine.features query answer.1))
  pub memory : IfSome node.up (λ m. IfErr result (λ f. f ≡ fault.Memory))

-- ---- composition
-- the text that the parts make that a node has once the input has brought its own
abbrev pub fetched_text : ReplicaState → Input → List ℕ
fetched_text m (input.Message e) = text_with m.fetching e.message
fetched_text m other = []

-- what a node that is the meaning of a list makes of an input that it takes
pub record StaysMeaning {S : Type 0} (old : NodeState S) (input : Input) (result : Result Response NodeFault) (new : NodeState S) : Type 0
  where
    pub goes_on : (base : List Command) → IfSome old.up (λ m. IsMeaningOf base m → IfOk result (λ said.
        said.restored ≡ None → IfSome new.up (λ n. GoesOnFrom base m n said)))
    -- one that restores a text is from then on the meaning of each list of as many commands that has it, whatever it was before
    pub restores : (base : List Command) → IfSome old.up (λ m. IfOk result (λ said. IfSome said.restored (λ target.
        length base ≡ target → IsSnapshot base (fetched_text m input) → IfSome new.up (λ n. RestoresFrom base m n said))))

-- an answer is that of the commands up to the position
pub record AnswersMeaning {S : Type 0} (node : NodeState S) (query : Query) (result : Result (ℕ × List ℕ) NodeFault) : Type 0 where
  pub answers : (base : List Command) → IfSome node.up (λ m. IsMeaningOf base m → IfOk result (λ answer.
      Answers (executed_from base m) query answer.1))
