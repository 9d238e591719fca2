-- Each step of the world is moves that the protocol allows.
use Rattle.std.proofs.Common.{◌≡◌, ℕ, zero, suc, ◌<◌, ◌≤◌, inl, inr, List, [], ◌∷◌, ◌++◌, map, length, slice_get, slice_set, Bool, true}
use Rattle.std.proofs.Common.{false, Option, Some, None, IfSome, Contains, Result, Ok, Err, is_ok, option_map, refl, sym, ap, subst}
use Rattle.std.proofs.Common.{◌∙◌, append-nil}
use Rattle.std.proofs.lemmas.Bool.{cases_eq}
use Rattle.std.proofs.lemmas.Option.{same_Some, slice_get-map, slice_get_within, get_or_from_slice_get}
use Rattle.synod.specs.Messages.{Frame}
use Rattle.synod.specs.Acts as act
use Rattle.synod.specs.Acts.{Local}
use Rattle.synod.specs.Runs as synod_runs
use Rattle.synod.specs.Runs.{HasCome, placed}
use Rattle.synod.proofs.Doing.{does_nothing}
use Rattle.stable.specs.Records.{Records}
use Rattle.stable.specs.Script.{Script}
use Rattle.stable.specs.declared.scripted.Failing.{Failing}
use Rattle.stable.specs.declared.stable.Stable.{Ghosts}
use Rattle.stable.specs.Storages.{IsLawful}
use Rattle.sessions.specs.declared.submission.Submission.{Submission}
use Rattle.sessions.specs.declared.command.Command.{Command}
use Rattle.wire.specs.declared.frames.envelope.Envelope.{Envelope}
use Rattle.store.specs.declared.query.Query.{Query}
use Rattle.events.specs.declared.event.Event.{Event}
use Rattle.node_model.specs.declared.fault.NodeFault.{NodeFault}
use Rattle.node_model.specs.declared.input.Input.{Input}
use Rattle.node_model.specs.declared.input.Input.TheVariants as input
use Rattle.world_model.specs.declared.lists.Submitted.{Submitted}
use Rattle.world_model.specs.declared.lists.LearntEntry.{LearntEntry}
use Rattle.node_model.specs.declared.outputs.LearntCommand.{LearntCommand}
use Rattle.world_model.specs.Memberships.{IsMembership}
use Rattle.node_model.specs.Nodes.{NodeState}
use Rattle.node_model.specs.Outputs.{Response}
use Rattle.node_model.specs.Inputs.{is_for_this_run}
use Rattle.node_model.specs.Protocol.{learnings, input_of, coming, InputFits, RecordsAgree, HoldsRecords, ReplicaStands}
use Rattle.world_model.specs.Protocol.{membership, frame_of, learnt_as, command_of}
use Rattle.world_model.specs.Reaching.{NodeStands, StandsAt, IsAllowed, AreHonest}
use Rattle.world_model.specs.Worlds.{WorldState, TakesAt, ArmsAt, RestartsAt, Steps, with_node, with_outcome, recorded}
use Rattle.world_model.specs.Worlds.{with_submission, answered, without_wait, learnt_by}
use Rattle.world_model.proofs.OneNode.ListedPuts.{KeepsPuts, same_lists as same_puts}
use Rattle.world_model.proofs.Refinement.MovingLemmas.{moved}
use Rattle.world_model.proofs.OneNode.NodeComes.{local_of, stands_still, NodeComes, node_comes, ComesQuietly, restart_comes}
use Rattle.world_model.proofs.OneNode.NodeMoves.{honest_before, sends_of, learnt_of, submitted_of}
use Rattle.world_model.proofs.Steps.Preserved.{HoldsOf, step_holds, taken_of, recorded_nodes, submission_nodes, answered_nodes}
use Rattle.world_model.proofs.OneNode.RestartLemmas.{restart_honest}
use Rattle.world_model.proofs.OneNode.VotesStand.{puts_same}

-- ---- one element of a list is replaced
pub set_there : {A : Type 0} (xs : List A) (i : ℕ) (y z : A) → slice_get xs i ≡ Some z → slice_get (slice_set xs i y) i ≡ Some y
set_there [] i y z e = absurd cc
set_there (x ∷ xs) zero y z e = refl
set_there (x ∷ xs) (suc i) y z e = set_there xs i y z e

set_beside : {A : Type 0} (xs : List A) (i j : ℕ) (y : A) → (j ≡ i → ⊥) → slice_get (slice_set xs i y) j ≡ slice_get xs j
set_beside [] i j y ne = refl
set_beside (x ∷ xs) zero zero y ne = absurd (ne refl)
set_beside (x ∷ xs) zero (suc j) y ne = refl
set_beside (x ∷ xs) (suc i) zero y ne = refl
set_beside (x ∷ xs) (suc i) (suc j) y ne = set_beside xs i j y (λ same. ne (ap suc same))

-- ---- what a node told, as the world lists it
abbrev news_of : ℕ → Result Response NodeFault → List LearntEntry
news_of node (Ok told) = learnt_by node told.learnt
news_of node (Err f) = []

news_listed : (node : ℕ) (r : Result Response NodeFault) → learnt_of node r ≡ map learnt_as (news_of node r)
news_listed node (Ok told) = by_option told.learnt
  where
    by_option : (o : Option LearntCommand) → learnings node o ≡ map learnt_as (learnt_by node o)
    by_option None = refl
    by_option (Some c) = refl
news_listed node (Err f) = refl

taken_listed : (node : ℕ) (i : Input) (r : Result Response NodeFault) → submitted_of i r ≡ map command_of (taken_of node i (is_ok r))
taken_listed node (input.Submit client number op) (Ok told) = refl
taken_listed node (input.Submit client number op) (Err f) = refl
taken_listed node other (Ok told) = refl
taken_listed node other (Err f) = refl

module _ {S : Type 0} {storages : Ghosts (Script S)} (laws : IsLawful storages)
    (armed_honest : (s : Script S) (f : Failing) → storages.IsHonest (record s { armed = Some f }) → storages.IsHonest s)
    (armed_contents : (s : Script S) (f : Failing) → storages.contents (record s { armed = Some f }) ≡ storages.contents s)
    (list_laws : KeepsPuts storages) where
  abbrev Nodes : Type 0
  Nodes = List (NodeState (Script S))

  -- where every storage is honest afterwards it was so before
  pub honest_nodes : (nodes : Nodes) (i : ℕ) (before after : NodeState (Script S)) → slice_get nodes i ≡ Some before
      → (storages.IsHonest after.storage → storages.IsHonest before.storage)
      → AreHonest storages.IsHonest (slice_set nodes i after) → AreHonest storages.IsHonest nodes
  honest_nodes nodes i before after here was honest j n e = elim (cases_eq j i) [
    | inl same ↦
        let there : slice_get nodes i ≡ Some n = subst (λ k. slice_get nodes k ≡ Some n) same e in
        let named : before ≡ n = same_Some before n (sym here ∙ there) in
        subst (λ (x : NodeState (Script S)). storages.IsHonest x.storage) named (was (honest i after (set_there nodes i after before here)))
    | inr other ↦ honest j n (set_beside nodes i j after other ∙ e)
  ]

  -- ---- lists by other names
  named : (nodes nodes' : Nodes) (frames frames' : List Envelope) (learnt learnt' : List LearntEntry) (submitted submitted' : List Submitted)
      → nodes' ≡ nodes → frames' ≡ frames → learnt' ≡ learnt → submitted' ≡ submitted
      → IsAllowed storages.contents nodes frames learnt submitted → IsAllowed storages.contents nodes' frames' learnt' submitted'
  named nodes nodes' frames frames' learnt learnt' submitted submitted' a b c d h =
      subst (λ (x : Nodes). IsAllowed storages.contents x frames' learnt' submitted') (sym a)
      (subst (λ (x : List Envelope). IsAllowed storages.contents nodes x learnt' submitted') (sym b)
      (subst (λ (x : List LearntEntry). IsAllowed storages.contents nodes frames x submitted') (sym c)
      (subst (λ (x : List Submitted). IsAllowed storages.contents nodes frames learnt x) (sym d) h)))

  abbrev WorldAllowed : WorldState S → Type 0
  WorldAllowed w = IsAllowed storages.contents w.nodes w.frames w.learnt w.submitted

  abbrev WorldHonest : WorldState S → Type 0
  WorldHonest w = AreHonest storages.IsHonest w.nodes

  same_lists : (old new : WorldState S) → new.nodes ≡ old.nodes → new.frames ≡ old.frames → new.learnt ≡ old.learnt
      → new.submitted ≡ old.submitted
      → WorldAllowed old → WorldAllowed new
  same_lists old new a b c d h = named old.nodes new.nodes old.frames new.frames old.learnt new.learnt old.submitted new.submitted a b c d h

  -- ---- a node takes an input
  recorded_frames : (w : WorldState S) (node : ℕ) (r : Result Response NodeFault) → (recorded w node r).frames ≡ w.frames ++ sends_of r
  recorded_frames w node (Ok told) = refl
  recorded_frames w node (Err f) = sym (append-nil w.frames)

  recorded_learnt : (w : WorldState S) (node : ℕ) (r : Result Response NodeFault) → (recorded w node r).learnt ≡ w.learnt ++ news_of node r
  recorded_learnt w node (Ok told) = refl
  recorded_learnt w node (Err f) = sym (append-nil w.learnt)

  recorded_submitted : (w : WorldState S) (node : ℕ) (r : Result Response NodeFault) → (recorded w node r).submitted ≡ w.submitted
  recorded_submitted w node (Ok told) = refl
  recorded_submitted w node (Err f) = refl

  record TakesAllowed (old : WorldState S) (node : ℕ) (input : Input) (taken : Bool) (new : WorldState S) : Type 0 where
    lists : IsAllowed storages.contents new.nodes new.frames new.learnt (old.submitted ++ taken_of node input taken)
    submitted : new.submitted ≡ old.submitted

  pub honest_took : (old : WorldState S) (node : ℕ) (i : Input) (taken : Bool) (new : WorldState S) → TakesAt storages old node i taken new
      → WorldHonest new → WorldHonest old
  honest_took old node i taken new h honest =
      let nodes : new.nodes ≡ slice_set old.nodes node h.after = ap (λ (w : WorldState S). w.nodes) h.leaves
      ∙ recorded_nodes (with_node old node h.after) node h.result in
      honest_nodes old.nodes node h.before h.after h.here (honest_before laws h.before h.after i h.result h.steps)
      (subst (λ (x : Nodes). AreHonest storages.IsHonest x) nodes honest)

  takes_allowed : (old : WorldState S) (node : ℕ) (i : Input) (taken : Bool) (new : WorldState S) → TakesAt storages old node i taken new
      → IsMembership old.nodes old.frames → InputFits i → (a : WorldAllowed old) → HasCome a.state.past (input_of node (length old.nodes) i)
      → WorldHonest new → TakesAllowed old node i taken new
  takes_allowed old node i taken new h membership_ fits a came honest =
      let nodes : new.nodes ≡ slice_set old.nodes node h.after = ap (λ (w : WorldState S). w.nodes) h.leaves
      ∙ recorded_nodes (with_node old node h.after) node h.result in
      let there : node < length old.nodes = slice_get_within old.nodes node h.before h.here in
      let own : storages.IsHonest h.after.storage = honest node h.after (ap (λ (x : Nodes). slice_get x node) nodes
      ∙ set_there old.nodes node h.after h.before h.here) in
      let m : NodeComes storages.contents (length old.nodes) node i a.state h.after h.result =
      node_comes laws list_laws (length old.nodes) node there membership_.few a.state a.reached h.before h.after i h.result came h.steps
      (a.stands.node node h.before h.here) (membership_.members node h.before h.here) fits own in
      let asks : m.to.submitted ≡ map command_of (taken_of node i taken) =
      m.submitted ∙ taken_listed node i h.result ∙ ap (λ b. map command_of (taken_of node i b)) (sym h.taken_) in
      record {
        lists = named (slice_set old.nodes node h.after) new.nodes (old.frames ++ sends_of h.result) new.frames
            (old.learnt ++ news_of node h.result) new.learnt
            (old.submitted ++ taken_of node i taken) (old.submitted ++ taken_of node i taken) nodes
            (ap (λ (w : WorldState S). w.frames) h.leaves ∙ recorded_frames (with_node old node h.after) node h.result)
            (ap (λ (w : WorldState S). w.learnt) h.leaves ∙ recorded_learnt (with_node old node h.after) node h.result) refl
            (moved old.nodes old.frames (sends_of h.result) old.learnt (news_of node h.result) old.submitted
            (taken_of node i taken) a node h.after
            (input_of node (length old.nodes) i) m.to came m.does m.stands m.sent (m.learnt ∙ news_listed node h.result) asks);
        submitted = ap (λ (w : WorldState S). w.submitted) h.leaves ∙ recorded_submitted (with_node old node h.after) node h.result;
      }

  -- an input of which nothing is submitted
  takes_quietly : (old : WorldState S) (node : ℕ) (i : Input) (taken : Bool) (new : WorldState S) → taken_of node i taken ≡ []
      → TakesAllowed old node i taken new → WorldAllowed new
  takes_quietly old node i taken new none t =
      named new.nodes new.nodes new.frames new.frames new.learnt new.learnt
      (old.submitted ++ taken_of node i taken) new.submitted refl refl refl
      (t.submitted ∙ sym (append-nil old.submitted) ∙ ap (λ l. old.submitted ++ l) (sym none)) t.lists

  -- ---- a request
  submits_allowed : (old between new : WorldState S) (node : ℕ) (r : Submission) (taken : Bool) → new ≡ with_submission between taken node r
      → TakesAllowed old node (input.Submit r.client r.number r.op) taken between → WorldAllowed new
  submits_allowed old between new node r true e t =
      named between.nodes new.nodes between.frames new.frames between.learnt new.learnt
      (old.submitted ++ record { node = node; submission = r } ∷ []) new.submitted
      (ap (λ (w : WorldState S). w.nodes) e) (ap (λ (w : WorldState S). w.frames) e) (ap (λ (w : WorldState S). w.learnt) e)
      (ap (λ (w : WorldState S). w.submitted) e ∙ ap (λ l. l ++ record { node = node; submission = r } ∷ []) t.submitted) t.lists
  submits_allowed old between new node r false e t =
      same_lists between new (ap (λ (w : WorldState S). w.nodes) e) (ap (λ (w : WorldState S). w.frames) e)
      (ap (λ (w : WorldState S). w.learnt) e)
      (ap (λ (w : WorldState S). w.submitted) e) (takes_quietly old node (input.Submit r.client r.number r.op) false between refl t)

  -- ---- a frame
  was_sent : (old : WorldState S) (a : WorldAllowed old) (k : ℕ) (frame : Envelope) → slice_get old.frames k ≡ Some frame
      → (b : Bool) → HasCome a.state.past (coming frame b)
  was_sent old a k frame sent false = tt
  was_sent old a k frame sent true =
      (frame.to, subst (λ (l : List (Frame Command)). Contains l (frame_of frame)) (sym a.stands.frames_) (in_map old.frames k frame sent))
    where
      in_map : (frames : List Envelope) (k : ℕ) (frame : Envelope) → slice_get frames k ≡ Some frame
          → Contains (map frame_of frames) (frame_of frame)
      in_map frames k frame sent =
          let mapped : slice_get (map frame_of frames) k ≡ Some (frame_of frame) =
          slice_get-map frame_of frames k ∙ ap (option_map frame_of) sent in
          let within : k < length (map frame_of frames) = slice_get_within (map frame_of frames) k (frame_of frame) mapped in
          (k, within, get_or_from_slice_get (map frame_of frames) k (frame_of frame) (frame_of frame) mapped)

  takes_step : (old : WorldState S) (node : ℕ) (i : Input) (taken : Bool) (new : WorldState S) → taken_of node i taken ≡ []
      → TakesAt storages old node i taken new
      → IsMembership old.nodes old.frames → InputFits i → ((a : WorldAllowed old) → HasCome a.state.past (input_of node (length old.nodes) i))
      → (WorldHonest old → WorldAllowed old) → WorldHonest new → WorldAllowed new
  takes_step old node i taken new none h membership_ fits came before honest =
      let a : WorldAllowed old = before (honest_took old node i taken new h honest) in
      takes_quietly old node i taken new none (takes_allowed old node i taken new h membership_ fits a (came a) honest)

  -- ---- a node is changed, and nothing is told
  changed : (old new : WorldState S) (node : ℕ) (after : NodeState (Script S)) (acts : act.Input Command) (y : Local Command)
      → new.nodes ≡ slice_set old.nodes node after
      → new.frames ≡ old.frames → new.learnt ≡ old.learnt → new.submitted ≡ old.submitted → (a : WorldAllowed old)
      → HasCome a.state.past acts
      → act.Does (membership (length old.nodes)) node acts (local_of a.state node) y
      → StandsAt storages.contents (length old.nodes) node (placed a.state node y).past (local_of (placed a.state node y) node) after
      → y.sent ≡ [] → y.learnt ≡ [] → y.submitted ≡ []
      → WorldAllowed new
  changed old new node after acts y nodes frames learnt submitted a came does now sent heard asks =
      named (slice_set old.nodes node after) new.nodes (old.frames ++ []) new.frames (old.learnt ++ []) new.learnt
      (old.submitted ++ []) new.submitted nodes
      (frames ∙ sym (append-nil old.frames)) (learnt ∙ sym (append-nil old.learnt)) (submitted ∙ sym (append-nil old.submitted))
      (moved old.nodes old.frames [] old.learnt [] old.submitted [] a node after acts y came does now sent heard asks)

  restart_allowed : (old new : WorldState S) (node : ℕ) → RestartsAt storages old node new → length old.nodes ≤ 7
      → (WorldHonest old → WorldAllowed old)
      → WorldHonest new → WorldAllowed new
  restart_allowed old new node h few before honest =
      let nodes : new.nodes ≡ slice_set old.nodes node h.after = ap (λ (w : WorldState S). w.nodes) h.leaves in
      let honest_set : AreHonest storages.IsHonest (slice_set old.nodes node h.after) =
      subst (λ (x : Nodes). AreHonest storages.IsHonest x) nodes honest in
      let own : storages.IsHonest h.after.storage = honest_set node h.after (set_there old.nodes node h.after h.before h.here) in
      let a : WorldAllowed old =
      before (honest_nodes old.nodes node h.before h.after h.here
      (restart_honest laws h.before h.after h.result h.restarts) honest_set) in
      let there : node < length old.nodes = slice_get_within old.nodes node h.before h.here in
      let q : ComesQuietly storages.contents (length old.nodes) node a.state h.after =
      restart_comes laws list_laws (length old.nodes) node there few a.state a.reached h.before h.after h.result h.restarts h.settled
      (a.stands.node node h.before h.here) own in
      changed old new node h.after q.input q.to nodes (ap (λ (w : WorldState S). w.frames) h.leaves)
      (ap (λ (w : WorldState S). w.learnt) h.leaves) (ap (λ (w : WorldState S). w.submitted) h.leaves) a q.came q.does q.stands q.unsent
      q.unlearnt
      q.unsubmitted

  armed_stands : (n : NodeState (Script S)) (f : Failing) (x : Local Command)
      → NodeStands storages.contents n x → NodeStands storages.contents (record n { storage = record n.storage { armed = Some f } }) x
  armed_stands n f x stands = record {
    records = subst (λ (c : Records). RecordsAgree c x.records) (sym (armed_contents n.storage f)) stands.records;
    up = subst (λ (c : Records). IfSome n.up (λ m. HoldsRecords m c × ReplicaStands m x)) (sym (armed_contents n.storage f)) stands.up;
  }

  armed_at : (nodes i : ℕ) (w : synod_runs.World Command) (n : NodeState (Script S)) (f : Failing)
      → StandsAt storages.contents nodes i w.past (local_of w i) n
      → StandsAt storages.contents nodes i w.past (local_of w i) (record n { storage = record n.storage { armed = Some f } })
  armed_at nodes i w n f s = record {
    listed = s.listed;
    input = s.input;
    came = s.came;
    after = s.after;
    does = s.does;
    unsent = s.unsent;
    unlearnt = s.unlearnt;
    unsubmitted = s.unsubmitted;
    stands = armed_stands n f s.after s.stands;
    puts = puts_same storages.contents n.storage (record n.storage { armed = Some f }) s.after.records
        (same_puts storages.contents n.storage (record n.storage { armed = Some f }) (armed_contents n.storage f) refl refl) s.puts;
    sure = s.sure;
    up = s.up;
  }

  arm_allowed : (old new : WorldState S) (node : ℕ) (f : Failing) → ArmsAt old node f new → (WorldHonest old → WorldAllowed old)
      → WorldHonest new → WorldAllowed new
  arm_allowed old new node f h before honest =
      let after : NodeState (Script S) = record h.before { storage = record h.before.storage { armed = Some f } } in
      let nodes : new.nodes ≡ slice_set old.nodes node after = ap (λ (w : WorldState S). w.nodes) h.leaves in
      let a : WorldAllowed old = before (honest_nodes old.nodes node h.before after h.here (armed_honest h.before.storage f)
      (subst (λ (x : Nodes). AreHonest storages.IsHonest x) nodes honest)) in
      let x : Local Command = local_of a.state node in
      changed old new node after act.Nothing x nodes (ap (λ (w : WorldState S). w.frames) h.leaves)
      (ap (λ (w : WorldState S). w.learnt) h.leaves)
      (ap (λ (w : WorldState S). w.submitted) h.leaves) a tt (does_nothing (membership (length old.nodes)) node act.Nothing x)
      (stands_still storages.contents (length old.nodes) a.state node after
      (armed_at (length old.nodes) node a.state h.before f (a.stands.node node h.before h.here))) refl refl refl

  answered_same : (old : WorldState S) (node : ℕ) (query : Query) (r : Result (ℕ × List ℕ) NodeFault) → WorldAllowed old
      → WorldAllowed (answered old node query r)
  answered_same old node query (Ok told) a = a
  answered_same old node query (Err f) a = a

  same_world : (old new : WorldState S) → new ≡ old → WorldAllowed old → WorldAllowed new
  same_world old new e a = subst (λ (w : WorldState S). WorldAllowed w) (sym e) a

  -- ---- one step
  worlds_allowed : HoldsOf storages (λ old e new. IsMembership old.nodes old.frames → (WorldHonest old → WorldAllowed old) → WorldHonest new
      → WorldAllowed new)
  worlds_allowed = record {
    takes = λ old e node i taken new h own membership_ before honest.
        takes_step old node i taken new (own.unsubmitted node taken) h membership_ own.fits
        (λ a. subst (λ (x : act.Input Command). HasCome a.state.past x) (sym (own.unasked node (length old.nodes))) tt) before honest;
    submits = λ old e node r new h membership_ before honest.
        let i : Input = input.Submit r.client r.number r.op in
        let nodes : new.nodes ≡ h.between.nodes =
        ap (λ (w : WorldState S). w.nodes) h.leaves ∙ submission_nodes h.between h.taken node r in
        let then : WorldHonest h.between = subst (λ (x : Nodes). AreHonest storages.IsHonest x) nodes honest in
        let a : WorldAllowed old = before (honest_took old node i h.taken h.between h.takes then) in
        submits_allowed old h.between new node r h.taken h.leaves (takes_allowed old node i h.taken h.between h.takes membership_ tt a tt then);
    hears = λ old e k frame taken new sent fits h membership_ before honest.
        takes_step (without_wait old k) frame.to (input.Message frame) taken new refl h membership_ fits.message
        (λ a. was_sent (without_wait old k) a k frame sent (is_for_this_run frame.to (length old.nodes) frame)) before honest;
    loses = λ old e k o new brings h membership_ before honest.
        same_world (with_outcome (without_wait old k) o) new h
        (before (subst (λ (x : Nodes). AreHonest storages.IsHonest x) (ap (λ (w : WorldState S). w.nodes) h) honest));
    restarts = λ old node new h membership_ before honest. restart_allowed old new node h membership_.few before honest;
    arms = λ old e node failing new h membership_ before honest. arm_allowed old new node failing h before honest;
    answers = λ old e node query new h membership_ before honest.
        same_world (answered old node query h.result) new h.leaves (answered_same old node query h.result
        (before (subst (λ (x : Nodes). AreHonest storages.IsHonest x) (ap (λ (w : WorldState S). w.nodes) h.leaves
        ∙ answered_nodes old node query h.result) honest)));
  }

  pub step_allowed : (old : WorldState S) (e : Event) (new : WorldState S) → Steps storages old e new
      → IsMembership old.nodes old.frames → (WorldHonest old → WorldAllowed old) → WorldHonest new → WorldAllowed new
  step_allowed old e new h = step_holds worlds_allowed old e new h
