-- One descent through a step: the only place with a case for each event.
use Rattle.std.proofs.Common.{◌≡◌, ℕ, List, [], ◌∷◌, ◌++◌, slice_get, Bool, true, false, Option, Some, None, IsSome, Result, Ok, Err}
use Rattle.std.proofs.Common.{if◌then◌else◌, refl, sym, subst}
use Rattle.synod.specs.Acts as act
use Rattle.stable.specs.Script.{Script}
use Rattle.stable.specs.declared.scripted.Failing.{Failing}
use Rattle.stable.specs.declared.stable.Stable.{Ghosts}
use Rattle.store.specs.Operations.{OpIsValid}
use Rattle.store.specs.declared.query.Query.{Query}
use Rattle.sessions.specs.declared.submission.Submission.{Submission}
use Rattle.wire.specs.FrameSpelling.{Fits}
use Rattle.wire.specs.declared.frames.envelope.Envelope.{Envelope}
use Rattle.events.specs.declared.event.Event.{Event}
use Rattle.events.specs.declared.event.Event.TheVariants as event
use Rattle.node_model.specs.declared.fault.NodeFault.{NodeFault}
use Rattle.node_model.specs.declared.input.Input.{Input}
use Rattle.node_model.specs.declared.input.Input.TheVariants as input
use Rattle.node_model.specs.Faults.{is_stop_fault}
use Rattle.node_model.specs.Replicas.{ReplicaState, submission_of}
use Rattle.node_model.specs.Nodes.{NodeState}
use Rattle.node_model.specs.Outputs.{Response}
use Rattle.node_model.specs.Protocol.{InputFits, input_of}
use Rattle.world_model.specs.declared.lists.StepOutcome.{StepOutcome}
use Rattle.world_model.specs.declared.lists.StepOutcome.TheVariants.{Done, Lost, Refused, Stopped}
use Rattle.world_model.specs.declared.lists.Submitted.{Submitted}
use Rattle.world_model.specs.Tallies.{learnt_told, replies_told, answers_told}
use Rattle.world_model.specs.Worlds.{WorldState, TakesAt, SubmitsAt, ReceivesAt, ArmsAt, AsksAt, RestartsAt, Steps, with_node, with_response}
use Rattle.world_model.specs.Worlds.{with_outcome, outcome_of, recorded, without_wait, with_submission, answered, with_answer}
use Rattle.world_model.specs.Worlds.{restart_outcome}

-- what is submitted to a node by an input, where it takes it
abbrev pub taken_of : ℕ → Input → Bool → List Submitted
taken_of node (input.Submit client number op) true = record { node = node; submission = submission_of client number op } ∷ []
taken_of node other b = []

-- an input that is the node's own: nobody submits, and no frame comes
pub record IsItsOwn (i : Input) : Type 0 where
  pub fits : InputFits i
  pub unasked : (node nodes : ℕ) → input_of node nodes i ≡ act.Nothing
  pub unsubmitted : (node : ℕ) (taken : Bool) → taken_of node i taken ≡ []
  pub unsent : (frame : Envelope) → i ≡ input.Message frame → ⊥

-- an outcome that tells of no entry of a list
pub record BringsNothing (o : StepOutcome) : Type 0 where
  pub learnt : 0 ≡ learnt_told o
  pub replies : 0 ≡ replies_told o
  pub answers : 0 ≡ answers_told o

-- what has to be shown of two worlds and an event so that it holds of every step: each part is handed over whole
pub record HoldsOf {S : Type 0} (storages : Ghosts (Script S)) (R : WorldState S → Event → WorldState S → Type 0) : Type 0 where
  pub takes : (old : WorldState S) (e : Event) (node : ℕ) (i : Input) (taken : Bool) (new : WorldState S)
      → TakesAt storages old node i taken new → IsItsOwn i → R old e new
  pub submits : (old : WorldState S) (e : Event) (node : ℕ) (r : Submission) (new : WorldState S)
      → SubmitsAt storages old node r new → R old e new
  pub hears : (old : WorldState S) (e : Event) (k : ℕ) (frame : Envelope) (taken : Bool) (new : WorldState S)
      → slice_get old.frames k ≡ Some frame → Fits 7 frame
      → TakesAt storages (without_wait old k) frame.to (input.Message frame) taken new → R old e new
  -- a frame is lost
  pub loses : (old : WorldState S) (e : Event) (k : ℕ) (o : StepOutcome) (new : WorldState S) → BringsNothing o
      → new ≡ with_outcome (without_wait old k) o → R old e new
  pub restarts : (old : WorldState S) (node : ℕ) (new : WorldState S) → RestartsAt storages old node new → R old (event.Restart node) new
  pub arms : (old : WorldState S) (e : Event) (node : ℕ) (failing : Failing) (new : WorldState S)
      → ArmsAt old node failing new → R old e new
  pub answers : (old : WorldState S) (e : Event) (node : ℕ) (query : Query) (new : WorldState S)
      → AsksAt old node query new → R old e new

own_timeout : IsItsOwn input.Timeout
own_timeout = record { fits = tt; unasked = λ node nodes. refl; unsubmitted = λ node taken. refl; unsent = λ frame is. cc }

own_tick : IsItsOwn input.Tick
own_tick = record { fits = tt; unasked = λ node nodes. refl; unsubmitted = λ node taken. refl; unsent = λ frame is. cc }

own_checkpoint : IsItsOwn input.Checkpoint
own_checkpoint = record { fits = tt; unasked = λ node nodes. refl; unsubmitted = λ node taken. refl; unsent = λ frame is. cc }

own_trim : IsItsOwn input.Trim
own_trim = record { fits = tt; unasked = λ node nodes. refl; unsubmitted = λ node taken. refl; unsent = λ frame is. cc }

nothing : BringsNothing (Done 0 0)
nothing = record { learnt = refl; replies = refl; answers = refl }

module _ {S : Type 0} {storages : Ghosts (Script S)} {R : WorldState S → Event → WorldState S → Type 0} (p : HoldsOf storages R) where
  received : (old : WorldState S) (e : Event) (k : ℕ) (frame : Envelope) (new : WorldState S) (o : Option ReplicaState)
      → slice_get old.frames k ≡ Some frame → Fits 7 frame
      → (h : ReceivesAt storages (without_wait old k) frame new) → h.receiver.up ≡ o → R old e new
  received old e k frame new None sent fits h up =
      p.loses old e k Lost new (record { learnt = refl; replies = refl; answers = refl }) (h.lost up)
  received old e k frame new (Some m) sent fits h up =
      let takes = h.taken (subst (λ (o : Option ReplicaState). IsSome o) (sym up) refl) in
      p.hears old e k frame takes.0 new sent fits takes.1

  -- each step, by its event
  pub step_holds : (old : WorldState S) (e : Event) (new : WorldState S) → Steps storages old e new → R old e new
  step_holds old (event.Submit node submission) new h = p.submits old (event.Submit node submission) node submission new h
  step_holds old (event.Deliver k) new h =
      received old (event.Deliver k) k h.frame new h.receives.receiver.up h.sent h.fits h.receives refl
  step_holds old (event.Drop k) new h = p.loses old (event.Drop k) k (Done 0 0) new nothing h
  step_holds old (event.Timeout node) new h = p.takes old (event.Timeout node) node input.Timeout h.0 new h.1 own_timeout
  step_holds old (event.Tick node) new h = p.takes old (event.Tick node) node input.Tick h.0 new h.1 own_tick
  step_holds old (event.Checkpoint node) new h = p.takes old (event.Checkpoint node) node input.Checkpoint h.0 new h.1 own_checkpoint
  step_holds old (event.Trim node) new h = p.takes old (event.Trim node) node input.Trim h.0 new h.1 own_trim
  step_holds old (event.Restart node) new h = p.restarts old node new h
  step_holds old (event.Fault node failing) new h = p.arms old (event.Fault node failing) node failing new h
  step_holds old (event.Query node query) new h = p.answers old (event.Query node query) node query new h

-- ---- the nodes, once something is told
module _ {S : Type 0} where
  pub recorded_nodes : (w : WorldState S) (node : ℕ) (r : Result Response NodeFault) → (recorded w node r).nodes ≡ w.nodes
  recorded_nodes w node (Ok said) = refl
  recorded_nodes w node (Err f) = refl

  pub submission_nodes : (w : WorldState S) (taken : Bool) (node : ℕ) (r : Submission) → (with_submission w taken node r).nodes ≡ w.nodes
  submission_nodes w true node r = refl
  submission_nodes w false node r = refl

  pub answered_nodes : (w : WorldState S) (node : ℕ) (query : Query) (r : Result (ℕ × List ℕ) NodeFault)
      → (answered w node query r).nodes ≡ w.nodes
  answered_nodes w node query (Ok told) = refl
  answered_nodes w node query (Err f) = refl

-- ---- what has to be shown of a property of worlds so that every step keeps it
pub record Preserved {S : Type 0} (storages : Ghosts (Script S)) (P : WorldState S → Type 0) : Type 0 where
  -- a node takes an input, and what it says is recorded
  pub takes : (w : WorldState S) (node : ℕ) (i : Input) (taken : Bool) (v : WorldState S) (h : TakesAt storages w node i taken v)
      (said : Response) → h.result ≡ Ok said → InputFits i → P w → P (with_response (with_node w node h.after) node said)
  -- it refuses or goes down
  pub fails : (w : WorldState S) (node : ℕ) (i : Input) (taken : Bool) (v : WorldState S) (h : TakesAt storages w node i taken v)
      (f : NodeFault) → h.result ≡ Err f → P w → P (with_node w node h.after)
  pub submits : (w : WorldState S) (s : Submitted) → OpIsValid s.submission.op → P w → P (record w { submitted = w.submitted ++ s ∷ [] })
  pub unwaits : (w : WorldState S) (k : ℕ) → P w → P (without_wait w k)
  pub says : (w : WorldState S) (o : StepOutcome) → BringsNothing o → P w → P (with_outcome w o)
  pub restarts : (w : WorldState S) (node : ℕ) (v : WorldState S) (h : RestartsAt storages w node v) → P w → P (with_node w node h.after)
  pub arms : (w : WorldState S) (node : ℕ) (failing : Failing) (before : NodeState (Script S)) → slice_get w.nodes node ≡ Some before
      → P w → P (with_node w node (record before { storage = record before.storage { armed = Some failing } }))
  pub answers : (w : WorldState S) (node : ℕ) (query : Query) (v : WorldState S) (h : AsksAt w node query v) (told : ℕ × List ℕ)
      → h.result ≡ Ok told → P w → P (with_answer w node query told.0 told.1)

outcome_nothing : (node : ℕ) (f : NodeFault) (b : Bool) → BringsNothing (if b then Stopped node f else Refused node f)
outcome_nothing node f true = record { learnt = refl; replies = refl; answers = refl }
outcome_nothing node f false = record { learnt = refl; replies = refl; answers = refl }

restart_nothing : (node : ℕ) (r : Result (Unit {0}) NodeFault) → BringsNothing (restart_outcome node r)
restart_nothing node (Ok x) = nothing
restart_nothing node (Err f) = record { learnt = refl; replies = refl; answers = refl }

module _ {S : Type 0} {storages : Ghosts (Script S)} {P : WorldState S → Type 0} (p : Preserved storages P) where
  another : (new w : WorldState S) → new ≡ w → P w → P new
  another new w e kept = subst (λ (x : WorldState S). P x) (sym e) kept

  recorded_keeps : (old : WorldState S) (node : ℕ) (i : Input) (taken : Bool) (new : WorldState S)
      (h : TakesAt storages old node i taken new) (r : Result Response NodeFault) → h.result ≡ r → InputFits i → P old
      → P (recorded (with_node old node h.after) node r)
  recorded_keeps old node i taken new h (Ok said) is fits kept = p.takes old node i taken new h said is fits kept
  recorded_keeps old node i taken new h (Err f) is fits kept =
      p.says (with_node old node h.after) (outcome_of node f) (outcome_nothing node f (is_stop_fault f))
      (p.fails old node i taken new h f is kept)

  pub take_keeps : (old : WorldState S) (node : ℕ) (i : Input) (taken : Bool) (new : WorldState S) → TakesAt storages old node i taken new
      → InputFits i → P old → P new
  take_keeps old node i taken new h fits kept =
      another new (recorded (with_node old node h.after) node h.result) h.leaves
      (recorded_keeps old node i taken new h h.result refl fits kept)

  submission_keeps : (w : WorldState S) (taken : Bool) (node : ℕ) (r : Submission) → OpIsValid r.op → P w → P (with_submission w taken node r)
  submission_keeps w true node r sound kept = p.submits w (record { node = node; submission = r }) sound kept
  submission_keeps w false node r sound kept = kept

  answer_keeps : (old : WorldState S) (node : ℕ) (query : Query) (new : WorldState S) (h : AsksAt old node query new)
      (r : Result (ℕ × List ℕ) NodeFault) → h.result ≡ r → P old → P (answered old node query r)
  answer_keeps old node query new h (Ok told) is kept = p.answers old node query new h told is kept
  answer_keeps old node query new h (Err f) is kept =
      p.says old (Refused node f) (record { learnt = refl; replies = refl; answers = refl }) kept

  keeps : HoldsOf storages (λ old e new. P old → P new)
  keeps = record {
    takes = λ old e node i taken new h own. take_keeps old node i taken new h own.fits;
    submits = λ old e node r new h kept.
        another new (with_submission h.between h.taken node r) h.leaves
        (submission_keeps h.between h.taken node r h.valid
        (take_keeps old node (input.Submit r.client r.number r.op) h.taken h.between h.takes tt kept));
    hears = λ old e k frame taken new sent fits h kept.
        take_keeps (without_wait old k) frame.to (input.Message frame) taken new h fits.message (p.unwaits old k kept);
    loses = λ old e k o new brings h kept.
        another new (with_outcome (without_wait old k) o) h (p.says (without_wait old k) o brings (p.unwaits old k kept));
    restarts = λ old node new h kept.
        another new (with_outcome (with_node old node h.after) (restart_outcome node h.result)) h.leaves
        (p.says (with_node old node h.after) (restart_outcome node h.result) (restart_nothing node h.result)
        (p.restarts old node new h kept));
    arms = λ old e node failing new h kept.
        another new _ h.leaves (p.says _ (Done 0 0) nothing (p.arms old node failing h.before h.here kept));
    answers = λ old e node query new h kept.
        another new (answered old node query h.result) h.leaves (answer_keeps old node query new h h.result refl kept);
  }

  -- every step keeps it
  pub step_keeps : (old : WorldState S) (e : Event) (new : WorldState S) → Steps storages old e new → P old → P new
  step_keeps old e new h kept = step_holds keeps old e new h kept
