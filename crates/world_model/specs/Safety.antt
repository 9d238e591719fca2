-- What is promised of a world whose storages are honest.
use Rattle.std.specs.Prelude.{◌≡◌, ◌↔◌, ℕ, ◌<◌, ◌≤◌, List, map, take, Contains, length, slice_get, Some, IsSome}
use Rattle.stable.specs.Records.{Records}
use Rattle.stable.specs.Script.{Script, Write}
use Rattle.stable.specs.declared.key.Key.TheVariants as key
use Rattle.synod.specs.History.{Voted}
use Rattle.synod.specs.Invariant.{IsAgreed}
use Rattle.synod.specs.Runs as synod_runs
use Rattle.synod.specs.Runs.{IsReached}
use Rattle.synod.specs.declared.ballot.Ballot.{Ballot}
use Rattle.synod.specs.declared.vote.Vote.{Vote}
use Rattle.acceptor.specs.Spelling.{ballot_bytes}
use Rattle.sessions.specs.Snapshots.{IsSnapshot}
use Rattle.sessions.specs.Standing.{StandsFor}
use Rattle.sessions.specs.declared.command.Command.{Command}
use Rattle.wire.specs.Parts.{Piece, piece}
use Rattle.wire.specs.RecordForms.{Checkpointed, checkpoint_bytes}
use Rattle.wire.specs.declared.frames.envelope.Envelope.{Envelope}
use Rattle.wire.specs.declared.frames.message.Message.TheVariants.{SnapPart}
use Rattle.acceptor.specs.Forms.{CheckpointFits}
use Rattle.node_model.specs.Replicas.{ReplicaState, position}
use Rattle.world_model.specs.Explaining.{Explains, IsExplained, LearntInLog}
use Rattle.world_model.specs.Protocol.{membership, frame_of, learnt_as, command_of}
use Rattle.world_model.specs.Reaching.{TookEffect, IsAllowed, AreHonest}
use Rattle.node_model.specs.States.{NodeState}
use Rattle.world_model.specs.Submissions.{BringValid}
use Rattle.world_model.specs.Telling.{WorldIsBacked}
use Rattle.world_model.specs.Voting.{HasVote, HasChosen}
use Rattle.world_model.specs.Worlds.{WorldState, replica_at}

-- the writes of each node
abbrev pub writes_of : {S : Type 0} → List (NodeState (Script S)) → List (List Write)
writes_of nodes = map (λ n. n.storage.writes) nodes

-- moves that the protocol allows lead from its start to this state: its past has these frames, all that any node learnt,
-- what was submitted, and the votes that the lists of writes tell; in it no two commands are chosen for one slot,
-- whatever any node learnt is chosen, and each chosen command is a no-op or was submitted
pub record HasAgreed {S : Type 0} (w : WorldState S) : Type 0 where
  pub state : synod_runs.World Command
  pub reached : IsReached (membership (length w.nodes)) state
  pub frames : state.past.frames ≡ map frame_of w.frames
  pub learnt : state.past.learnt ≡ map learnt_as w.learnt
  pub submitted : state.past.submitted ≡ map command_of w.submitted
  pub votes : (i : ℕ) (n : NodeState (Script S)) → slice_get w.nodes i ≡ Some n
      → (v : Vote Command) → Voted state.past i v ↔ HasVote n.storage.writes v
  pub agreed : IsAgreed (membership (length w.nodes)) state.past

-- the text is that of the list's first entries, as many as the position says, and these are there
pub record IsTextOfFirst (l : List Command) (position : ℕ) (text : List ℕ) : Type 0 where
  pub there : position ≤ length l
  pub is : IsSnapshot (take position l) text

-- so it is of the text of each checkpoint that any node wrote, also where another has taken its place since
abbrev pub HasTexts : List Command → List (List Write) → Type 0
HasTexts l nodes = (writes : List Write) (c : Checkpointed) → Contains nodes writes → CheckpointFits c
    → Contains writes (key.Checkpoint, checkpoint_bytes c) → IsTextOfFirst l c.position c.text

-- the part is one of such a text
pub record IsPieceOfFirst (l : List Command) (p : Piece) : Type 0 where
  pub text : List ℕ
  pub first : IsTextOfFirst l p.position text
  pub is : p ≡ piece p.position text p.number

-- so it is of each part that any node sent
abbrev pub HasParts : List Command → List Envelope → Type 0
HasParts l frames = (e : Envelope) (p : Piece) → Contains frames e → e.message ≡ SnapPart p → IsPieceOfFirst l p

-- each node that is up stands for the list's first entries, as many as its position says, and these are there
pub record StandsForFirst (l : List Command) (m : ReplicaState) : Type 0 where
  pub there : position m ≤ length l
  pub stands : StandsFor m.machine (take (position m) l)

abbrev pub NodesStand : {S : Type 0} → List Command → WorldState S → Type 0
NodesStand l w = (i : ℕ) (m : ReplicaState) → replica_at w i ≡ Some m → StandsForFirst l m

-- so whatever any node learnt is chosen by the lists of writes, and one list of commands explains everything that any
-- node told. What the requests bring is valid, so that a query has one answer over such a list
pub record IsSafe {S : Type 0} (w : WorldState S) : Type 0 where
  pub agreed : HasAgreed w
  pub chosen : HasChosen (writes_of w.nodes) w.learnt w.submitted
  pub explained : IsExplained w.submitted w.learnt w.replies w.answers
  pub valid : BringValid w.submitted
  -- whatever list explains the world
  pub texts : (l : List Command) → Explains l w.submitted w.learnt w.replies w.answers → HasTexts l (writes_of w.nodes)
  pub parts : (l : List Command) → Explains l w.submitted w.learnt w.replies w.answers → HasParts l w.frames
  pub nodes : (l : List Command) → Explains l w.submitted w.learnt w.replies w.answers → NodesStand l w

-- ---- what is kept from call to call
-- each promise that was put and took effect, alone or in a checkpoint, is of one of so many nodes
pub record PromisesAmong {S : Type 0} (contents : Script S → Records) (nodes : ℕ) (s : Script S) : Type 0 where
  pub alone : (b : Ballot) → TookEffect contents s (key.Promise, ballot_bytes b) → b.node < nodes
  pub sealed : (c : Checkpointed) (b : Ballot) → CheckpointFits c → TookEffect contents s (key.Checkpoint, checkpoint_bytes c)
      → c.promise ≡ Some b → b.node < nodes

-- so it is at each node, of the nodes of the run
abbrev pub PromisesOfRun : {S : Type 0} → (Script S → Records) → List (NodeState (Script S)) → Type 0
PromisesOfRun {S} contents nodes =
    (i : ℕ) (n : NodeState (Script S)) → slice_get nodes i ≡ Some n → PromisesAmong contents (length nodes) n.storage

-- moves that the protocol allows lead there, the lists tell what the nodes know, whatever was learnt was learnt at a slot of the log,
-- what was submitted is valid, and what was promised is of a node of the run
pub record WorldInvariant {S : Type 0} (contents : Script S → Records) (w : WorldState S) : Type 0 where
  pub allowed : IsAllowed contents w.nodes w.frames w.learnt w.submitted
  pub tells : WorldIsBacked contents w
  pub in_log : LearntInLog w.learnt
  pub valid : BringValid w.submitted
  pub promises : PromisesOfRun contents w.nodes

-- of a scripted storage, by what holds of the storage inside
abbrev pub contents_inside : {S : Type 0} → (S → Records) → Script S → Records
contents_inside contents s = contents s.inner

abbrev pub honest_inside : {S : Type 0} → (S → Type 0) → Script S → Type 0
honest_inside IsHonest s = IsHonest s.inner × IsSome s.fired

-- where every storage is honest
pub record IsSoundIfHonest {S : Type 0} (contents : Script S → Records) (IsHonest : Script S → Type 0) (w : WorldState S) : Type 0 where
  pub sound : AreHonest IsHonest w.nodes → WorldInvariant contents w
