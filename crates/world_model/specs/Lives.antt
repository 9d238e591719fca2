-- Nodes as processes of their own, killed and started again at will: the life of one, and the lives of all, woven together.
use Rattle.std.specs.Prelude.{◌≡◌, ℕ, ◌==◌, ◌<◌, ◌≤◌, List, [], ◌∷◌, ◌++◌, length, slice_get, true, if◌then◌else◌, ⊤}
use Rattle.std.specs.Prelude.{◌⊎◌, Some, None, IsSome, IfSome, Result, Ok, Err, Contains}
use Rattle.std.specs.List.{flat_map}
use Rattle.stable.specs.Records.{Change, no_records}
use Rattle.stable.specs.Script.{Script}
use Rattle.stable.specs.Storages.{scripted}
use Rattle.stable.specs.declared.stable.Stable.{Ghosts}
use Rattle.synod.specs.declared.ballot.TheConstants.{MOST_NODES}
use Rattle.store.specs.Operations.{OpIsValid}
use Rattle.store.specs.declared.query.Query.{Query}
use Rattle.wire.specs.FrameSpelling.{Fits}
use Rattle.wire.specs.declared.frames.envelope.Envelope.{Envelope}
use Rattle.events.specs.declared.event.Event.{Event}
use Rattle.node_model.specs.declared.fault.NodeFault.{NodeFault}
use Rattle.node_model.specs.declared.input.Input.{Input}
use Rattle.node_model.specs.declared.input.Input.TheVariants as input
use Rattle.node_model.specs.Inputs.{is_for_this_run}
use Rattle.node_model.specs.Loading.{IsMember, IsFresh, IsLoaded, IsDamaged, Restarts}
use Rattle.node_model.specs.Nodes.{NodeState, NodeSteps, NodeAnswers, StaysMeaning, AnswersMeaning}
use Rattle.node_model.specs.Outputs.{Response}
use Rattle.node_model.specs.Replicas.{ReplicaState, submission_of, refuses}
use Rattle.node_model.specs.Taking.{Writes}
use Rattle.world_model.specs.declared.lists.Submitted.{Submitted}
use Rattle.world_model.specs.declared.lists.LearntEntry.{LearntEntry}
use Rattle.world_model.specs.declared.lists.Replied.{Replied}
use Rattle.world_model.specs.declared.lists.Answered.{Answered}
use Rattle.world_model.specs.Explaining.{IsExplained}
use Rattle.world_model.specs.Flushing.{IsStart}
use Rattle.world_model.specs.HandedOn.{HandedOn, handed_on, HoldsStill, HoldsChanged}
use Rattle.world_model.specs.Outputs.{replied_by}
use Rattle.world_model.specs.Progress.{StepsAll}
use Rattle.world_model.specs.Worlds.{WorldState, learnt_by}

-- ---- the life of one node
-- what happens to it
pub data Happening : Type 0 where
  -- its process takes an input, refuses it, or goes down on it
  Took : Input → Result Response NodeFault → Happening
  -- its process is killed once the change that an input makes is stored, before anything is told of it; and another has opened the storage
  Killed : Input → Happening
  -- it is asked
  Asked : Query → Result (ℕ × List ℕ) NodeFault → Happening
  -- its process is no more, and another has opened the storage
  Opened : Happening
  -- that one loads the records, or fails to
  Loaded : Result (Unit {0}) NodeFault → Happening

-- an input that the node takes makes a change, and the storage holds what it held but for that
pub record IsCutOff {S : Type 0} (storages : Ghosts S) (old : NodeState S) (input : Input) (storage : S) : Type 0 where
  pub replica : ReplicaState
  pub up : old.up ≡ Some replica
  pub unrefused : refuses replica input ≡ None
  pub change : Change
  pub makes : Writes replica input (Some change)
  pub leaves : HoldsChanged storages old.storage change storage

-- the node of the next process, which has loaded nothing yet
abbrev pub reopened : {S : Type 0} → NodeState S → S → NodeState S
reopened n storage = record n { storage = storage; up = None }

-- it makes the second state of the first
abbrev pub Happens : {S : Type 0} → Ghosts S → NodeState S → Happening → NodeState S → Type 0
Happens storages old (Took input result) new = NodeSteps storages old input result new × StaysMeaning old input result new
Happens storages old (Killed input) new = IsCutOff storages old input new.storage × (new ≡ reopened old new.storage)
Happens storages old (Asked query result) new = NodeAnswers old query result × AnswersMeaning old query result × (new ≡ old)
-- it is never lost, swapped or restored from a copy, and keeps what a sync answered for
Happens storages old Opened new = HoldsStill storages old.storage new.storage × (new ≡ reopened old new.storage)
Happens storages old (Loaded result) new = Restarts storages old result new

-- one after the other these happened, from the first state to the last
abbrev pub IsLife : {S : Type 0} → Ghosts S → NodeState S → List Happening → NodeState S → Type 0
IsLife storages old [] new = new ≡ old
IsLife {S} storages old (what ∷ more) new =
    (between : NodeState S) × Happens storages old what between × IsLife storages between more new

-- a node that a process has begun over a storage: it holds what the records leave, or it is down
pub record HasBegun {S : Type 0} (storages : Ghosts S) (id nodes : ℕ) (storage : S) (n : NodeState S) : Type 0 where
  pub member : IsMember id nodes n
  pub fresh : IfSome n.up (IsFresh id nodes)
  pub loads : storages.IsHonest n.storage → IfSome n.up (IsLoaded (storages.contents storage) id nodes)
  pub sound : storages.IsHonest n.storage → IsSome n.up → ¬ (IsDamaged storages storage)
  pub up : IsSome n.up → storages.looks storage n.storage
  pub down : n.up ≡ None → storages.looks storage n.storage ⊎ storages.read_fails storage n.storage

-- the node before that
abbrev pub down_over : {S : Type 0} → ℕ → ℕ → S → NodeState S
down_over id nodes storage = record { id = id; nodes = nodes; storage = storage; up = None }

-- ---- moments
-- what happens to which node. What a process did on top of a change that never reached its file, and of which nothing left the process, is
-- no moment
pub record Moment : Type 0 where
  pub node : ℕ
  pub what : Happening

-- what happens to one node, in its order
abbrev pub happenings_of : ℕ → List Moment → List Happening
happenings_of i [] = []
happenings_of i (m ∷ more) = if m.node == i then m.what ∷ happenings_of i more else happenings_of i more

-- ---- what a moment tells
abbrev pub request_at : ℕ → Input → List Submitted
request_at node (input.Submit client number op) = record { node = node; submission = submission_of client number op } ∷ []
request_at node other = []

abbrev pub submitted_at : ℕ → Happening → List Submitted
submitted_at node (Took input (Ok said)) = request_at node input
submitted_at node other = []

-- what its node says, where it takes an input
abbrev pub said_by : {A : Type 0} → (Response → List A) → Happening → List A
said_by part (Took input (Ok said)) = part said
said_by part other = []

abbrev pub sent_at : ℕ → Happening → List Envelope
sent_at node what = said_by (λ said. said.sends) what

abbrev pub learnt_at : ℕ → Happening → List LearntEntry
learnt_at node what = said_by (λ said. learnt_by node said.learnt) what

abbrev pub replied_at : ℕ → Happening → List Replied
replied_at node what = said_by (λ said. replied_by node said.replies) what

abbrev pub answered_at : ℕ → Happening → List Answered
answered_at node (Asked query (Ok told)) = record { node = node; position = told.0; query = query; text = told.1 } ∷ []
answered_at node other = []

-- what many tell, the oldest first
abbrev pub told_by : {A : Type 0} → (ℕ → Happening → List A) → List Moment → List A
told_by part moments = flat_map (λ m. part m.node m.what) moments

-- ---- the lives of all nodes
-- what may come to a node of so many, once these frames were sent: a valid request, and what decodes as a frame for this node only if a
-- node of this run sent it
abbrev pub MayCome : ℕ → List Envelope → ℕ → Input → Type 0
MayCome count sent node (input.Submit client number op) = OpIsValid op
MayCome count sent node (input.Message e) = is_for_this_run node count e ≡ true → Contains sent e × Fits 7 e
MayCome count sent node other = ⊤

abbrev pub MayHappen : ℕ → List Envelope → ℕ → Happening → Type 0
MayHappen count sent node (Took input result) = MayCome count sent node input
MayHappen count sent node (Killed input) = MayCome count sent node input
MayHappen count sent node other = ⊤

-- no process of the node was ever started, and its storage is empty
pub record IsUnborn {S : Type 0} (storages : Ghosts S) (count i : ℕ) (n : NodeState S) : Type 0 where
  pub number : n.id ≡ i
  pub of_all : n.nodes ≡ count
  pub down : n.up ≡ None
  pub empty : storages.IsHonest n.storage → storages.contents n.storage ≡ no_records
  pub no_stray : storages.IsHonest n.storage → ¬ (storages.HasStrayKey n.storage)

-- the moments are the lives of so many nodes, each from before its first process on, woven together: whatever comes to one comes after it
-- was sent
pub record AreLives {S : Type 0} (storages : Ghosts S) (moments : List Moment) (first last : List (NodeState S)) : Type 0 where
  pub few : length first ≤ MOST_NODES
  pub as_many : length last ≡ length first
  pub unborn : (i : ℕ) (n : NodeState S) → slice_get first i ≡ Some n → IsUnborn storages (length first) i n
  pub life : (i : ℕ) (old : NodeState S) → slice_get first i ≡ Some old
      → (new : NodeState S) × (slice_get last i ≡ Some new) × IsLife storages old (happenings_of i moments) new
  pub among : (before after : List Moment) (m : Moment) → moments ≡ before ++ m ∷ after → m.node < length first
  pub comes : (before after : List Moment) (m : Moment) → moments ≡ before ++ m ∷ after
      → MayHappen (length first) (told_by sent_at before) m.node m.what

-- ---- what they are to a world
-- it tells what the moments told, and nothing else
pub record TellsMoments {S : Type 0} (moments : List Moment) (w : WorldState S) : Type 0 where
  pub submitted : w.submitted ≡ told_by submitted_at moments
  pub frames : w.frames ≡ told_by sent_at moments
  pub learnt : w.learnt ≡ told_by learnt_at moments
  pub replies : w.replies ≡ told_by replied_at moments
  pub answers : w.answers ≡ told_by answered_at moments

-- the node of a world is this one, its storage handed on from process to process with the list of its puts, and no fault was ever armed
pub record IsNodeInWorld {S : Type 0} (n : NodeState S) (x : NodeState (Script (HandedOn S))) : Type 0 where
  pub storage : Script (HandedOn S)
  pub is : x ≡ record { id = n.id; nodes = n.nodes; storage = storage; up = n.up }
  pub of_node : storage.inner.storage ≡ n.storage
  pub unarmed : storage.armed ≡ None
  pub unfired : storage.fired ≡ Some 0

-- steps of a world lead from a start to these nodes, and tell what the moments told
pub record AreRun {S : Type 0} (storages : Ghosts S) (moments : List Moment) (last : List (NodeState S)) : Type 0 where
  pub start : WorldState (HandedOn S)
  pub starts : IsStart (scripted (handed_on storages)) (length last) start
  pub few : length last ≤ MOST_NODES
  pub events : List Event
  pub world : WorldState (HandedOn S)
  pub steps : StepsAll (scripted (handed_on storages)) start events world
  pub tells : TellsMoments moments world
  pub all : length world.nodes ≡ length last
  pub nodes : (i : ℕ) (x : NodeState (Script (HandedOn S))) → slice_get world.nodes i ≡ Some x
      → (n : NodeState S) × (slice_get last i ≡ Some n) × IsNodeInWorld n x

-- one list of commands explains every reply and every answer that any process ever told
abbrev pub AreExplained : List Moment → Type 0
AreExplained moments = IsExplained (told_by submitted_at moments) (told_by learnt_at moments) (told_by replied_at moments)
    (told_by answered_at moments)

-- every storage is honest
abbrev pub StoragesAreHonest : {S : Type 0} → Ghosts S → List (NodeState S) → Type 0
StoragesAreHonest {S} storages nodes = (i : ℕ) (n : NodeState S) → slice_get nodes i ≡ Some n → storages.IsHonest n.storage
