-- What a node's inputs and states are to the protocol.
use Rattle.std.specs.Prelude.{◌≡◌, ◌≤◌, ℕ, zero, List, [], ◌∷◌, ◌++◌, map, Bool, true, false, Option, Some, None, ⊤}
use Rattle.synod.specs.Acts as acts
use Rattle.synod.specs.Acts.{Membership, Local, Does}
use Rattle.synod.specs.History as history
use Rattle.synod.specs.Records as synod_records
use Rattle.sessions.specs.Snapshots.{snapshot_bytes}
use Rattle.sessions.specs.declared.command.Command.{Command}
use Rattle.sessions.specs.declared.command.Command.TheVariants.{NoOp, Request}
use Rattle.stable.specs.Records.{Records}
use Rattle.stable.specs.declared.key.Key.TheVariants as key
use Rattle.acceptor.specs.Accepting.{Accepting, RecordsSay, IsCovered, after_prepare, after_accept, after_checkpoint, after_trim}
use Rattle.acceptor.specs.Protocol.{RecordsStand}
use Rattle.learner.specs.Protocol.{LearnerStands}
use Rattle.proposer.specs.Proposing.{next_round}
use Rattle.proposer.specs.Protocol.{ProposerStands, stopping}
use Rattle.wire.specs.FrameSpelling.{MessageFits}
use Rattle.wire.specs.RecordForms.{IsRoundRecord}
use Rattle.wire.specs.declared.frames.envelope.Envelope.{Envelope}
use Rattle.wire.specs.declared.frames.message.Message.{Message}
use Rattle.wire.specs.declared.frames.message.Message.TheVariants.{Prepare, Accept}
pub use Rattle.wire.specs.Protocol.{message_of, frame_of}
use Rattle.node_model.specs.declared.input.Input.{Input}
use Rattle.node_model.specs.declared.input.Input.TheVariants as input
use Rattle.node_model.specs.declared.outputs.LearntCommand.{LearntCommand}
use Rattle.node_model.specs.Inputs.{is_for_this_run}
use Rattle.node_model.specs.Replicas.{ReplicaState, position, submission_of}
use Rattle.node_model.specs.Outputs.{Response}

-- so many nodes; a no-op does nothing
abbrev pub membership : ℕ → Membership Command
membership nodes = record { nodes = nodes; noop = NoOp }

-- ---- inputs
-- an envelope comes to the node where it concerns it
abbrev pub coming : Envelope → Bool → acts.Input Command
coming e false = acts.Nothing
coming e true = acts.Came e.from (message_of e.message)

-- what an input is to node `id` of so many
abbrev pub input_of : ℕ → ℕ → Input → acts.Input Command
input_of id nodes (input.Message e) = coming e (is_for_this_run id nodes e)
input_of id nodes other = acts.Nothing

-- the commands that it submits
abbrev pub submissions : Input → List Command
submissions (input.Submit client number op) = Request (submission_of client number op) ∷ []
submissions other = []

-- what node `id` learnt
abbrev pub learnings : ℕ → Option LearntCommand → List (history.Lesson Command)
learnings id None = []
learnings id (Some e) = record { node = id; slot = e.slot; command = e.command } ∷ []

-- ---- what a node holds
-- the protocol's records and replica say what each role of the node holds, and how far the node has executed; its acceptor's floor
-- is no further
pub record ReplicaStands (m : ReplicaState) (x : Local Command) : Type 0 where
  pub records : RecordsStand m.acceptor m.proposer.round x.records
  pub learner : LearnerStands m.learner x.replica
  pub proposer : ProposerStands m.proposer x
  pub position_ : x.replica.position ≡ position m
  pub level : m.acceptor.floor ≤ position m

-- ---- what a node does
-- from x node `id` may come to what stands for the new replica, by acts that are allowed on this input, and submit these commands
-- and say this on the way
pub record MayComeTo (nodes id : ℕ) (input : acts.Input Command) (submits : List Command) (x : Local Command)
    (new : ReplicaState) (said : Response) : Type 0 where
  pub after : Local Command
  pub does : Does (membership nodes) id input x after
  pub stands : ReplicaStands new after
  pub sent : after.sent ≡ x.sent ++ map frame_of said.sends
  pub learnt : after.learnt ≡ x.learnt ++ learnings id said.learnt
  pub submitted : after.submitted ≡ x.submitted ++ submits

-- from x node `id` of so many may make this of an input
abbrev pub MayTake : ℕ → ℕ → Input → Local Command → ReplicaState → Response → Type 0
MayTake nodes id input x new said = MayComeTo nodes id (input_of id nodes input) (submissions input) x new said

-- ---- what is written
-- what comes may stand in a frame of the largest run, as whatever is read from one does
abbrev pub InputFits : Input → Type 0
InputFits (input.Message e) = MessageFits 7 e.message
InputFits other = ⊤

-- what the acceptor holds once the write of a message, and of an input, is made
abbrev pub accepting_on : ReplicaState → Message → Accepting
accepting_on m (Prepare ballot first) = after_prepare m.acceptor ballot first
accepting_on m (Accept v) = after_accept m.acceptor v
accepting_on m other = m.acceptor

abbrev pub accepting_if : ReplicaState → Envelope → Bool → Accepting
accepting_if m e false = m.acceptor
accepting_if m e true = accepting_on m e.message

abbrev pub accepting_after : ReplicaState → Input → Accepting
accepting_after m (input.Message e) = accepting_if m e (is_for_this_run m.id m.nodes e)
accepting_after m input.Checkpoint = after_checkpoint m.acceptor (position m) (snapshot_bytes m.machine)
accepting_after m input.Trim = after_trim m.acceptor
accepting_after m other = m.acceptor

-- the round that the proposer has begun last, once the write of an input is made
abbrev pub round_after : ReplicaState → Input → ℕ
round_after m input.Timeout = next_round m.proposer
round_after m other = m.proposer.round

-- what the record of a round says: without one it is 0
abbrev pub SaysRound : Option (List ℕ) → ℕ → Type 0
SaysRound None round = round ≡ zero
SaysRound (Some bytes) round = IsRoundRecord bytes round

-- a node's records say that its acceptor holds this, and its proposer this round; the votes below the floor are covered by the
-- promise of the checkpoint, as of every node of a run
pub record RecordsHold (records : Records) (a : Accepting) (round : ℕ) : Type 0 where
  pub acceptor : RecordsSay records a
  pub covered : IsCovered a
  pub proposer : SaysRound (records key.Round) round

-- a node's records say what the protocol's do
pub record RecordsAgree (records : Records) (r : synod_records.NodeRecords Command) : Type 0 where
  pub acceptor : Accepting
  pub round : ℕ
  pub holds : RecordsHold records acceptor round
  pub stands : RecordsStand acceptor round r

-- a node that is up holds what its records say
abbrev pub HoldsRecords : ReplicaState → Records → Type 0
HoldsRecords m records = RecordsHold records m.acceptor m.proposer.round

-- from x node `id` may go down: its records stand for this then, and nothing is left of its replica
pub record MayStop (nodes id : ℕ) (input : acts.Input Command) (x : Local Command) (a : Accepting) (round : ℕ) : Type 0 where
  pub records : synod_records.NodeRecords Command
  pub does : Does (membership nodes) id input x (stopping x records)
  pub stands : RecordsStand a round records
