-- What a process may let out, to other nodes and to its clients, and what its node may take.
use Rattle.std.specs.Prelude.{◌≡◌, ◌≤◌, ℕ, List, ◌∷◌, ◌++◌, ◌⊎◌, ⊤, Contains, Option, Some, None, IfSome}
use Rattle.std.specs.List.{flat_map}
use Rattle.sessions.specs.SessionReplies.{outcome_code}
use Rattle.sessions.specs.declared.submission.Submission.{Submission}
use Rattle.stable.specs.declared.stable.Stable.{Ghosts}
use Rattle.wire.specs.FrameSpelling.{IsFrame}
use Rattle.wire.specs.declared.frames.envelope.Envelope.{Envelope}
use Rattle.node_model.specs.Faults.{node_code}
use Rattle.node_model.specs.declared.fault.NodeFault.{NodeFault}
use Rattle.node_model.specs.declared.input.Input.{Input}
use Rattle.node_model.specs.declared.input.Input.TheVariants as input
use Rattle.node_model.specs.Nodes.{NodeState}
use Rattle.node_model.specs.Replicas.{submission_of}
use Rattle.world_model.specs.Lives.{Happening, Took, Killed, sent_at}
use Rattle.world_model.specs.declared.lists.Answered.{Answered}
use Rattle.world_model.specs.declared.lists.Replied.{Replied}
use Rattle.life.specs.Telling.{ToldLists, joined}
use Rattle.schedule.specs.Causes.{cause_code}
use Rattle.schedule.specs.declared.fault.ScheduleFault.{ScheduleFault}
use Rattle.schedule.specs.declared.replay_fault.ReplayCause.TheVariants.{Schedule}
use Rattle.clients.specs.AnswerLines.{answer_line, status_line, text_line}
use Rattle.clients.specs.ClientLines.{IsClientFault, IsClientLine}
use Rattle.clients.specs.declared.answer.ClientAnswer.TheVariants as answer
use Rattle.clients.specs.declared.answer.Status.{Status}
use Rattle.clients.specs.declared.line.ClientLine.{ClientLine}
use Rattle.clients.specs.declared.line.ClientLine.TheVariants as line
use Rattle.serving.specs.declared.claims.Claim.{Claim}
use Rattle.serving.specs.declared.requests.TheConstants.{HANDED_ON}
use Rattle.serving.specs.declared.waiting.Due.{Due}
use Rattle.serving.specs.declared.waiting.Due.TheVariants as due
use Rattle.serving.specs.declared.waiting.Question.{Question}
use Rattle.serving.specs.Knowing.{IsLastNumber, IsPosition, Refuses, WasSo}
use Rattle.serving.specs.Requesting.{RequestState}
use Rattle.serving.specs.Tapes.{Carried, Sent, Arrived, Talk, Heard, Told}

-- ---- all that a process did so far
pub record Past : Type 0 where
  -- what happened to its node
  pub history : List Happening
  -- what its life handed out
  pub handed : ToldLists
  -- what passed between it and the other nodes
  pub carried : List Carried
  -- what passed between it and its clients
  pub talk : List Talk

-- what it did then, and what it did since
abbrev pub later : Past → List Happening → ToldLists → List Carried → List Talk → Past
later past happened handed carried talk = record {
  history = past.history ++ happened;
  handed = joined past.handed handed;
  carried = past.carried ++ carried;
  talk = past.talk ++ talk;
}

-- ---- what clients wrote
-- the connection wrote a line that asks for this
pub record HasWritten (talk : List Talk) (connection : ℕ) (asked : ClientLine) : Type 0 where
  pub text : List ℕ
  pub heard : Contains talk (Heard connection text)
  pub asks : IsClientLine text asked

-- a connection that waits for a reply has made the request
pub record HasAsked (talk : List Talk) (claim : Claim) : Type 0 where
  pub submission : Submission
  pub written : HasWritten talk claim.connection (line.Submit submission)
  pub client : submission.client ≡ claim.client
  pub number : submission.number ≡ claim.number

-- from where a query that names this position, or none, may be answered
abbrev pub first_position : Option ℕ → ℕ
first_position None = 0
first_position (Some position) = position

-- a query that is held back was asked by its connection, from this position on
pub record HasQueried (talk : List Talk) (question : Question) : Type 0 where
  pub position : Option ℕ
  pub written : HasWritten talk question.connection (line.Query question.query position)
  pub from : question.from ≡ first_position position

-- ---- to other nodes
-- a request is handed on as the mark and the line of the client that made it
abbrev pub handed_on : List ℕ → List ℕ
handed_on text = HANDED_ON ∷ text

-- the life handed out a frame to the node that these bytes spell
pub record IsHandedOutFrame (handed : ToldLists) (to : ℕ) (bytes : List ℕ) : Type 0 where
  pub envelope : Envelope
  pub handed_out : Contains handed.frames envelope
  pub receiver : envelope.to ≡ to
  pub spelled : IsFrame 7 bytes envelope

-- some client of this process wrote the line that is handed on
pub record IsHandedOnLine (talk : List Talk) (bytes : List ℕ) : Type 0 where
  pub connection : ℕ
  pub submission : Submission
  pub written : HasWritten talk connection (line.Submit submission)
  pub spelled : bytes ≡ handed_on written.text

-- nothing but these is sent; anything may come
abbrev pub MayPass : Past → Carried → Type 0
MayPass past (Sent to bytes) = IsHandedOutFrame past.handed to bytes ⊎ IsHandedOnLine past.talk bytes
MayPass past other = ⊤

-- ---- to clients
-- a connection is told a reply that the life handed out, to a request that it made
pub record IsReplyToOwn (past : Past) (connection : ℕ) (text : List ℕ) : Type 0 where
  pub replied : Replied
  pub handed_out : Contains past.handed.replies replied
  pub spelled : text ≡ answer_line (answer.Reply replied.client replied.number (outcome_code replied.reply) replied.position)
  pub submission : Submission
  pub written : HasWritten past.talk connection (line.Submit submission)
  pub client : submission.client ≡ replied.client
  pub number : submission.number ≡ replied.number

-- an answer that the life handed out, to a query that it asked, and of no older position than it named
pub record IsAnswerToOwn (past : Past) (connection : ℕ) (text : List ℕ) : Type 0 where
  pub answered : Answered
  pub handed_out : Contains past.handed.answers answered
  pub spelled : text ≡ text_line answered.position answered.text
  pub position : Option ℕ
  pub written : HasWritten past.talk connection (line.Query answered.query position)
  pub from : IfSome position (λ p. p ≤ answered.position)

-- what a connection is told of its own line, which no promise of the run is about, where the node was so at some time
pub data IsPlain {S : Type 0} (Was : NodeState S → Type 0) (talk : List Talk) (connection : ℕ) (text : List ℕ) : Type 0 where
  -- its request was refused, with the fault that the node found
  refused : (n : NodeState S) (submission : Submission) (fault : NodeFault) → Was n → Refuses n submission fault
      → HasWritten talk connection (line.Submit submission)
      → text ≡ answer_line (answer.Refused submission.client submission.number (node_code fault)) → IsPlain Was talk connection text
  -- its line has a fault
  faulty : (asked : List ℕ) (found : ScheduleFault) → Contains talk (Heard connection asked) → IsClientFault asked (Schedule found)
      → text ≡ answer_line (answer.Fault (cause_code (Schedule found))) → IsPlain Was talk connection text
  -- how far the node was
  status : (n : NodeState S) (known : Status) → Was n → IsPosition n known.position → HasWritten talk connection line.Status
      → text ≡ status_line known → IsPlain Was talk connection text
  -- which number of the client had counted last
  last : (n : NodeState S) (client number : ℕ) → Was n → IsLastNumber n client number → HasWritten talk connection (line.Last client)
      → text ≡ answer_line (answer.Last client number) → IsPlain Was talk connection text

-- a connection is told nothing but these; it may write anything, and go
abbrev pub MayBeSaid : {S : Type 0} → Ghosts S → NodeState S → Past → Talk → Type 0
MayBeSaid storages first past (Told connection text) = IsReplyToOwn past connection text ⊎ IsAnswerToOwn past connection text
    ⊎ IsPlain (WasSo storages first past.history) past.talk connection text
MayBeSaid storages first past other = ⊤

-- what is due at the end of a turn: a query to be answered, or a plain line
abbrev pub MayBeDue : {S : Type 0} → (NodeState S → Type 0) → List Talk → Due → Type 0
MayBeDue Was talk (due.Answer question) = HasQueried talk question
MayBeDue Was talk (due.Line connection text) = IsPlain Was talk connection text.items

-- a request that waits to be handed on is a line of a client
abbrev pub MayBeHandedOn : List Talk → RequestState → Type 0
MayBeHandedOn talk request = IsHandedOnLine talk request.packet

-- ---- what the node takes
-- bytes came that are the frame of the message, among so many nodes
pub record HasArrived (carried : List Carried) (e : Envelope) : Type 0 where
  pub bytes : List ℕ
  pub arrived : Contains carried (Arrived bytes)
  pub nodes : ℕ
  pub frame : IsFrame nodes bytes e

-- a client of this process wrote the request
pub record IsOfClient (talk : List Talk) (submission : Submission) : Type 0 where
  pub connection : ℕ
  pub written : HasWritten talk connection (line.Submit submission)

-- another process handed on a client's line with the request
pub record IsHandedOn (carried : List Carried) (submission : Submission) : Type 0 where
  pub text : List ℕ
  pub arrived : Contains carried (Arrived (handed_on text))
  pub asks : IsClientLine text (line.Submit submission)

-- a message that the node of this number sent to itself or that came, or a request that some client wrote; and what the process gives it
-- by itself
abbrev pub MayCome : ℕ → Past → Input → Type 0
MayCome id past (input.Message e) = Contains (flat_map (sent_at id) past.history) e ⊎ HasArrived past.carried e
MayCome id past (input.Submit client number op) =
    IsOfClient past.talk (submission_of client number op) ⊎ IsHandedOn past.carried (submission_of client number op)
MayCome id past other = ⊤

-- what the process gives it by itself
abbrev pub IsOfProcess : Input → Type 0
IsOfProcess (input.Message e) = ⊥
IsOfProcess (input.Submit client number op) = ⊥
IsOfProcess other = ⊤

abbrev pub MayHappen : ℕ → Past → Happening → Type 0
MayHappen id past (Took input result) = MayCome id past input
MayHappen id past (Killed input) = MayCome id past input
MayHappen id past other = ⊤
