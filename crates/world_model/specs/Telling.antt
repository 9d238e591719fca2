-- What the lists of a world tell of one another: whatever a reply or an answer rests on was learnt by some node.
use Rattle.std.specs.Prelude.{◌≡◌, ◌⊎◌, ℕ, List, length, Some, IfSome, Contains, slice_get}
use Rattle.stable.specs.Records.{Records}
use Rattle.stable.specs.Script.{Script}
use Rattle.stable.specs.declared.key.Key.TheVariants as key
use Rattle.sessions.specs.Meaning.{Answers}
use Rattle.sessions.specs.Snapshots.{IsSnapshot}
use Rattle.sessions.specs.declared.command.Command.{Command}
use Rattle.wire.specs.RecordForms.{Checkpointed, checkpoint_bytes}
use Rattle.wire.specs.Parts.{Piece, piece, parts_in}
use Rattle.wire.specs.declared.frames.envelope.Envelope.{Envelope}
use Rattle.wire.specs.declared.frames.message.Message.TheVariants.{SnapPart}
use Rattle.acceptor.specs.Forms.{CheckpointFits}
use Rattle.node_model.specs.Composition.{IsMeaningOf, IsReplyOf}
use Rattle.node_model.specs.Fetching.{Fetching}
use Rattle.node_model.specs.Replicas.{ReplicaState, learnt_in}
use Rattle.node_model.specs.States.{NodeState}
use Rattle.world_model.specs.declared.lists.LearntEntry.{LearntEntry}
use Rattle.world_model.specs.declared.lists.Replied.{Replied}
use Rattle.world_model.specs.declared.lists.Answered.{Answered}
use Rattle.world_model.specs.Outputs.{executed_of}
use Rattle.world_model.specs.Reaching.{TookEffect}
use Rattle.world_model.specs.Worlds.{WorldState}

-- some node learnt the command at the slot
pub record WasLearnt (learnt : List LearntEntry) (slot : ℕ) (c : Command) : Type 0 where
  pub entry : LearntEntry
  pub there : Contains learnt entry
  pub at : entry.slot ≡ slot
  pub holds : entry.command ≡ c

-- each of these commands was learnt at its slot, from the first on
abbrev pub WereLearnt : List LearntEntry → List Command → Type 0
WereLearnt learnt log = (slot : ℕ) (c : Command) → slice_get log slot ≡ Some c → WasLearnt learnt slot c

-- a reply is that of a list of what was learnt, to one of its requests
pub record TellsReply (learnt : List LearntEntry) (p : Replied) : Type 0 where
  pub log : List Command
  pub known : WereLearnt learnt log
  pub replies : IsReplyOf log (executed_of p)

-- an answer is that of a list of what was learnt, as long as its position says
pub record TellsAnswer (learnt : List LearntEntry) (a : Answered) : Type 0 where
  pub log : List Command
  pub known : WereLearnt learnt log
  pub position : a.position ≡ length log
  pub answers : Answers log a.query a.text

-- the text is that of a list of what was learnt, as long as the position says: so each slot below it was learnt by some node
pub record TellsText (learnt : List LearntEntry) (position : ℕ) (text : List ℕ) : Type 0 where
  pub log : List Command
  pub known : WereLearnt learnt log
  pub length_ : length log ≡ position
  pub is : IsSnapshot log text

-- each checkpoint that was written and took effect, replaced since or not, has such a text
abbrev pub TextsTold : {S : Type 0} → (Script S → Records) → List LearntEntry → Script S → Type 0
TextsTold contents learnt s = (c : Checkpointed) → CheckpointFits c → TookEffect contents s (key.Checkpoint, checkpoint_bytes c)
    → TellsText learnt c.position c.text

-- a part is one of such a text
pub record TellsPiece (learnt : List LearntEntry) (p : Piece) : Type 0 where
  pub text : List ℕ
  pub told : TellsText learnt p.position text
  pub is : p ≡ piece p.position text p.number

-- each part that is held stands at its number, is of the text that is fetched, and is one of such a text
pub record HoldsToldParts (learnt : List LearntEntry) (f : Fetching) : Type 0 where
  pub places : (f.total ≡ 0) ⊎ (length f.held ≡ parts_in f.total)
  pub of_checkpoint : (number : ℕ) (p : Piece) → slice_get f.held number ≡ Some (Some p) → p.position ≡ f.target
  pub of_total : (number : ℕ) (p : Piece) → slice_get f.held number ≡ Some (Some p) → p.total ≡ f.total
  pub in_place : (number : ℕ) (p : Piece) → slice_get f.held number ≡ Some (Some p) → p.number ≡ number
  pub told : (number : ℕ) (p : Piece) → slice_get f.held number ≡ Some (Some p) → TellsPiece learnt p

-- what a node that is up has learnt is listed, and it is the meaning of a list with which it began, of what some nodes learnt, and of
-- what it has learnt behind it
pub record ReplicaIsBacked (learnt : List LearntEntry) (m : ReplicaState) : Type 0 where
  pub base : List Command
  pub begins : WereLearnt learnt base
  pub listed : (slot : ℕ) (c : Command) → learnt_in m slot ≡ Some c → WasLearnt learnt slot c
  pub meaning : IsMeaningOf base m
  -- and so is what it fetches
  pub fetches : IfSome m.fetching (HoldsToldParts learnt)

pub record ListsAreBacked {S : Type 0} (contents : Script S → Records) (nodes : List (NodeState (Script S))) (frames : List Envelope)
    (learnt : List LearntEntry) (replies : List Replied) (answers : List Answered) : Type 0 where
  pub replied : (p : Replied) → Contains replies p → TellsReply learnt p
  pub answered : (a : Answered) → Contains answers a → TellsAnswer learnt a
  pub knows : (i : ℕ) (n : NodeState (Script S)) (m : ReplicaState) → slice_get nodes i ≡ Some n → n.up ≡ Some m → ReplicaIsBacked learnt m
  pub texts : (i : ℕ) (n : NodeState (Script S)) → slice_get nodes i ≡ Some n → TextsTold contents learnt n.storage
  -- each part that was sent
  pub parts : (e : Envelope) (p : Piece) → Contains frames e → e.message ≡ SnapPart p → TellsPiece learnt p

abbrev pub WorldIsBacked : {S : Type 0} → (Script S → Records) → WorldState S → Type 0
WorldIsBacked contents w = ListsAreBacked contents w.nodes w.frames w.learnt w.replies w.answers
