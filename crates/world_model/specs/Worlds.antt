-- The world: all nodes, everything that was sent, and everything that came of it.
use Rattle.std.specs.Prelude.{◌≡◌, ℕ, List, [], ◌∷◌, ◌++◌, length, replicate, slice_get, slice_set, Bool, true, false}
use Rattle.std.specs.Prelude.{Option, Some, None, is_ok, Result, Ok, Err, IsSome, OnOk, if◌then◌else◌}
use Rattle.stable.specs.Script.{Script}
use Rattle.stable.specs.declared.scripted.Failing.{Failing}
use Rattle.stable.specs.declared.stable.Stable.{Ghosts}
use Rattle.sessions.specs.declared.submission.Submission.{Submission}
use Rattle.wire.specs.declared.frames.envelope.Envelope.{Envelope}
use Rattle.store.specs.Operations.{OpIsValid}
use Rattle.store.specs.declared.query.Query.{Query}
use Rattle.wire.specs.FrameSpelling.{Fits}
use Rattle.events.specs.declared.event.Event.{Event}
use Rattle.events.specs.declared.event.Event.TheVariants as event
use Rattle.node_model.specs.declared.fault.NodeFault.{NodeFault}
use Rattle.node_model.specs.declared.input.Input.{Input}
use Rattle.node_model.specs.declared.input.Input.TheVariants as input
use Rattle.node_model.specs.declared.outputs.LearntCommand.{LearntCommand}
use Rattle.node_model.specs.Faults.{is_stop_fault}
use Rattle.node_model.specs.Loading.{Restarts}
use Rattle.node_model.specs.Replicas.{ReplicaState}
use Rattle.node_model.specs.Nodes.{NodeState, NodeSteps, NodeAnswers, StaysMeaning, AnswersMeaning}
use Rattle.node_model.specs.Outputs.{Response}
use Rattle.world_model.specs.declared.lists.Submitted.{Submitted}
use Rattle.world_model.specs.declared.lists.LearntEntry.{LearntEntry}
use Rattle.world_model.specs.declared.lists.Replied.{Replied}
use Rattle.world_model.specs.declared.lists.Answered.{Answered}
use Rattle.world_model.specs.declared.lists.StepOutcome.{StepOutcome}
use Rattle.world_model.specs.declared.lists.StepOutcome.TheVariants.{Done, Restored, Lost, Refused, Stopped, Answered as AnsweredOutcome}
use Rattle.world_model.specs.Outputs.{replied_by}

-- all nodes over their storages, and everything that happened
pub record WorldState (S : Type 0) : Type 0 where
  pub nodes : List (NodeState (Script S))
  pub submitted : List Submitted
  pub frames : List Envelope
  -- which frames wait to be delivered: a flag for each
  pub waiting : List Bool
  pub learnt : List LearntEntry
  pub replies : List Replied
  pub answers : List Answered
  pub outcomes : List StepOutcome

-- what a node holds, where it is there and up
abbrev pub replica_in : {S : Type 0} → Option (NodeState S) → Option ReplicaState
replica_in None = None
replica_in (Some n) = n.up

abbrev pub replica_at : {S : Type 0} → WorldState S → ℕ → Option ReplicaState
replica_at w m = replica_in (slice_get w.nodes m)

-- ---- what a node told joins the lists
abbrev pub learnt_by : ℕ → Option LearntCommand → List LearntEntry
learnt_by node None = []
learnt_by node (Some e) = record { node = node; slot = e.slot; command = e.command } ∷ []

abbrev pub with_outcome : {S : Type 0} → WorldState S → StepOutcome → WorldState S
with_outcome w outcome = record w { outcomes = w.outcomes ++ outcome ∷ [] }

-- what came of a step that was made: a text was restored, or so many slots were learnt
abbrev pub came_of : ℕ → Option ℕ → ℕ → ℕ → StepOutcome
came_of node None learnt replies = Done learnt replies
came_of node (Some position) learnt replies = Restored node position replies

abbrev pub with_response : {S : Type 0} → WorldState S → ℕ → Response → WorldState S
with_response w node said = record w {
  frames = w.frames ++ said.sends;
  waiting = w.waiting ++ replicate (length said.sends) true;
  learnt = w.learnt ++ learnt_by node said.learnt;
  replies = w.replies ++ replied_by node said.replies;
  outcomes = w.outcomes ++ came_of node said.restored (length (learnt_by node said.learnt)) (length said.replies) ∷ [];
}

-- a refusal and a failure are told, and nothing else
abbrev pub outcome_of : ℕ → NodeFault → StepOutcome
outcome_of node f = if is_stop_fault f then Stopped node f else Refused node f

-- the world once a node's answer to an input is recorded
abbrev pub recorded : {S : Type 0} → WorldState S → ℕ → Result Response NodeFault → WorldState S
recorded w node (Ok said) = with_response w node said
recorded w node (Err f) = with_outcome w (outcome_of node f)

abbrev pub with_node : {S : Type 0} → WorldState S → ℕ → NodeState (Script S) → WorldState S
with_node w i n = record w { nodes = slice_set w.nodes i n }

-- ---- a node takes an input, and what it tells is recorded
pub record TakesAt {S : Type 0} (storages : Ghosts (Script S))
    (old : WorldState S) (node : ℕ) (input : Input) (taken : Bool) (new : WorldState S) : Type 0 where
  pub before : NodeState (Script S)
  pub here : slice_get old.nodes node ≡ Some before
  pub after : NodeState (Script S)
  pub result : Result Response NodeFault
  pub steps : NodeSteps storages before input result after
  -- it goes on being the meaning of what it has learnt, or restores a text
  pub meaning : StaysMeaning before input result after
  pub taken_ : taken ≡ is_ok result
  pub leaves : new ≡ recorded (with_node old node after) node result

-- ---- the kinds of step
-- frame k waits no more
abbrev pub without_wait : {S : Type 0} → WorldState S → ℕ → WorldState S
without_wait w k = record w { waiting = slice_set w.waiting k false }

-- the step is made, and there is nothing to tell
abbrev pub quiet : {S : Type 0} → WorldState S → WorldState S
quiet w = with_outcome w (Done 0 0)

-- a request that a node took joins the list of submissions
abbrev pub with_submission : {S : Type 0} → WorldState S → Bool → ℕ → Submission → WorldState S
with_submission w taken node r =
    if taken then record w { submitted = w.submitted ++ record { node = node; submission = r } ∷ [] } else w

-- a client's request comes to a node, and what it brings is valid
pub record SubmitsAt {S : Type 0} (storages : Ghosts (Script S))
    (old : WorldState S) (node : ℕ) (r : Submission) (new : WorldState S) : Type 0 where
  pub valid : OpIsValid r.op
  pub taken : Bool
  pub between : WorldState S
  pub takes : TakesAt storages old node (input.Submit r.client r.number r.op) taken between
  pub leaves : new ≡ with_submission between taken node r

-- a frame has come: a node that is up takes it, and one that is down loses it
pub record ReceivesAt {S : Type 0} (storages : Ghosts (Script S))
    (old : WorldState S) (frame : Envelope) (new : WorldState S) : Type 0 where
  pub receiver : NodeState (Script S)
  pub here : slice_get old.nodes frame.to ≡ Some receiver
  pub lost : receiver.up ≡ None → new ≡ with_outcome old Lost
  pub taken : IsSome receiver.up → (taken : Bool) × TakesAt storages old frame.to (input.Message frame) taken new

-- frame k comes to its receiver as the envelope that its bytes spell, and waits no more
pub record DeliversFrame {S : Type 0} (storages : Ghosts (Script S))
    (old : WorldState S) (k : ℕ) (new : WorldState S) : Type 0 where
  pub frame : Envelope
  pub sent : slice_get old.frames k ≡ Some frame
  pub fits : Fits 7 frame
  pub receives : ReceivesAt storages (without_wait old k) frame new

-- the next put of a node fails so
pub record ArmsAt {S : Type 0} (old : WorldState S) (node : ℕ) (failing : Failing) (new : WorldState S) : Type 0 where
  pub before : NodeState (Script S)
  pub here : slice_get old.nodes node ≡ Some before
  pub leaves : new ≡ quiet (with_node old node
      (record before { storage = record before.storage { armed = Some failing } }))

-- a node's answer to a query joins the list of answers
abbrev pub with_answer : {S : Type 0} → WorldState S → ℕ → Query → ℕ → List ℕ → WorldState S
with_answer w node query position text = record w {
  answers = w.answers ++ record { node = node; position = position; query = query; text = text } ∷ [];
  outcomes = w.outcomes ++ AnsweredOutcome ∷ [];
}

-- a refusal to answer is told, and nothing else
abbrev pub answered : {S : Type 0} → WorldState S → ℕ → Query → Result (ℕ × List ℕ) NodeFault → WorldState S
answered w node query (Ok told) = with_answer w node query told.0 told.1
answered w node query (Err f) = with_outcome w (Refused node f)

-- a node is asked, and is as it was
pub record AsksAt {S : Type 0} (old : WorldState S) (node : ℕ) (query : Query) (new : WorldState S) : Type 0 where
  pub asked : NodeState (Script S)
  pub here : slice_get old.nodes node ≡ Some asked
  pub result : Result (ℕ × List ℕ) NodeFault
  pub answers : NodeAnswers asked query result
  -- an answer is that of what the node has learnt
  pub meaning : AnswersMeaning asked query result
  pub leaves : new ≡ answered old node query result

-- a node restarts
abbrev pub restart_outcome : ℕ → Result (Unit {0}) NodeFault → StepOutcome
restart_outcome node (Ok x) = Done 0 0
restart_outcome node (Err f) = Stopped node f

pub record RestartsAt {S : Type 0} (storages : Ghosts (Script S)) (old : WorldState S) (node : ℕ) (new : WorldState S) : Type 0 where
  pub before : NodeState (Script S)
  pub here : slice_get old.nodes node ≡ Some before
  pub after : NodeState (Script S)
  pub result : Result (Unit {0}) NodeFault
  pub restarts : Restarts storages before result after
  -- one that is up again knows of each put whether it took effect
  pub settled : OnOk result (after.storage.unsure ≡ None)
  pub leaves : new ≡ with_outcome (with_node old node after) (restart_outcome node result)

-- ---- one atomic step
abbrev pub Steps : {S : Type 0} (storages : Ghosts (Script S))
    → WorldState S → Event → WorldState S → Type 0
Steps storages old (event.Submit node submission) new =
    SubmitsAt storages old node submission new
Steps storages old (event.Deliver k) new =
    DeliversFrame storages old k new
Steps storages old (event.Drop k) new = new ≡ quiet (without_wait old k)
Steps storages old (event.Timeout node) new =
    (taken : Bool) × TakesAt storages old node input.Timeout taken new
Steps storages old (event.Tick node) new =
    (taken : Bool) × TakesAt storages old node input.Tick taken new
Steps storages old (event.Checkpoint node) new =
    (taken : Bool) × TakesAt storages old node input.Checkpoint taken new
Steps storages old (event.Trim node) new =
    (taken : Bool) × TakesAt storages old node input.Trim taken new
Steps storages old (event.Restart node) new =
    RestartsAt storages old node new
Steps storages old (event.Fault node failing) new = ArmsAt old node failing new
Steps storages old (event.Query node query) new = AsksAt old node query new
