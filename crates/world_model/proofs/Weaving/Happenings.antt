-- What happens to one node, as steps of a world.
use Rattle.std.proofs.Common.{◌≡◌, ◌==◌, ◌&&◌, ℕ, zero, suc, ◌<◌, List, [], ◌∷◌, ◌++◌, length, slice_get, slice_set, nat_lt}
use Rattle.std.proofs.Common.{Bool, true, false}
use Rattle.std.proofs.Common.{Option, Some, None, IsSome, IfSome, is_ok, Result, Ok, Err, IfOk, Contains}
use Rattle.std.proofs.Common.{refl, sym, ap, ◌∙◌, subst, append-nil, arith}
use Rattle.std.specs.Bool.{⊤}
use Rattle.std.specs.List.{slice_index_or}
use Rattle.std.proofs.lemmas.Bool.{and_parts, eqb-true}
use Rattle.std.proofs.lemmas.Option.{none-some, same_Some}
use Rattle.stable.specs.Script.{Script}
use Rattle.stable.specs.declared.stable.Stable.{Ghosts}
use Rattle.stable.specs.Storages.{IsLawful, scripted}
use Rattle.store.specs.Operations.{OpIsValid}
use Rattle.store.specs.declared.op.Op.{Op}
use Rattle.store.specs.declared.query.Query.{Query}
use Rattle.wire.specs.FrameSpelling.{Fits}
use Rattle.wire.specs.declared.frames.envelope.Envelope.{Envelope}
use Rattle.events.specs.declared.event.Event.{Event}
use Rattle.events.specs.declared.event.Event.TheVariants as event
use Rattle.node_model.specs.declared.fault.NodeFault.{NodeFault}
use Rattle.node_model.specs.declared.fault.NodeFault.TheVariants as fault
use Rattle.node_model.specs.declared.input.Input.{Input}
use Rattle.node_model.specs.declared.input.Input.TheVariants as input
use Rattle.node_model.specs.Composition.{IsMeaningOf}
use Rattle.node_model.specs.Inputs.{is_for_this_run, names_run}
use Rattle.node_model.specs.Loading.{IsMember, Restarts}
use Rattle.node_model.specs.Nodes.{NodeState, NodeSteps, NodeAnswers, StaysMeaning, AnswersMeaning}
use Rattle.node_model.specs.Outputs.{Response, silence}
use Rattle.node_model.specs.Replicas.{ReplicaState, submission_of}
use Rattle.world_model.specs.HandedOn.{HandedOn, handed_on}
use Rattle.world_model.specs.Lives.{Happening, Took, Killed, Asked, Opened, Loaded, Happens, IsCutOff, reopened, MayCome, MayHappen}
use Rattle.world_model.specs.Lives.{submitted_at, sent_at, learnt_at, replied_at, answered_at, request_at}
use Rattle.world_model.specs.Progress.{StepsAll}
use Rattle.world_model.specs.Worlds.{WorldState, TakesAt, Steps, with_node, recorded, with_submission, answered, with_outcome}
use Rattle.world_model.specs.Worlds.{restart_outcome, without_wait}
use Rattle.world_model.proofs.Weaving.WithPuts.{Listed, node_with, StepsWith, steps_with, cut_with, loads_with, opens_with}

-- ---- lists
-- an element has a place
get_from : {A : Type 0} (xs : List A) (k : ℕ) (x d : A) → k < length xs → slice_index_or xs k d ≡ x → slice_get xs k ≡ Some x
get_from [] k x d within e = absurd (omega (arith, within))
get_from (y ∷ ys) zero x d within e = ap Some e
get_from (y ∷ ys) (suc k) x d within e = get_from ys k x d (omega (arith, within)) e

pub contained_at : {A : Type 0} (xs : List A) (x : A) → Contains xs x → (k : ℕ) × (slice_get xs k ≡ Some x)
contained_at xs x c = (c.0, get_from xs c.0 x x c.1 c.2)

-- an element is put where it stands
set_same : {A : Type 0} (xs : List A) (i : ℕ) (x : A) → slice_get xs i ≡ Some x → xs ≡ slice_set xs i x
set_same [] i x e = refl
set_same (y ∷ ys) zero x e = ap (λ (z : _). z ∷ ys) (same_Some y x e)
set_same (y ∷ ys) (suc i) x e = ap (λ (zs : List _). y ∷ zs) (set_same ys i x e)

none_joins : {A : Type 0} (xs ys : List A) → ys ≡ [] → xs ≡ xs ++ ys
none_joins xs ys none = sym (append-nil xs) ∙ ap (λ (zs : List _). xs ++ zs) (sym none)

-- a message that concerns a node is addressed to it
addressed : (id nodes : ℕ) (e : Envelope) → is_for_this_run id nodes e ≡ true → e.to ≡ id
addressed id nodes e h = eqb-true e.to id (and_parts (e.to == id) (nat_lt e.from nodes && names_run nodes e.message) h).0

-- what was killed said nothing that could be kept
nothing_after : (o : Option ReplicaState) (P : ReplicaState → Type 0) → IfSome o (λ m. P m → ⊤)
nothing_after None P = tt
nothing_after (Some m) P = λ p. tt

nothing_then : (o : Option ReplicaState) → IfSome o (λ m. ⊤)
nothing_then None = tt
nothing_then (Some m) = tt

-- ---- steps one after the other
pub steps_then : {S : Type 0} (storages : Ghosts (Script S)) (a : WorldState S) (events more : List Event) (b c : WorldState S)
    → StepsAll storages a events b → StepsAll storages b more c → StepsAll storages a (events ++ more) c
steps_then {S} storages a [] more b c h k = subst (λ (w : WorldState S). StepsAll storages w more c) h k
steps_then storages a (e ∷ events) more b c h k = (h.0, h.1, steps_then storages h.0 events more b c h.2 k)

module _ {S : Type 0} {storages : Ghosts S} (laws : IsLawful storages) where
  abbrev Handed : Ghosts (Script (HandedOn S))
  Handed = scripted (handed_on storages)

  abbrev World : Type 0
  World = WorldState (HandedOn S)

  abbrev Node : Type 0
  Node = NodeState (Script (HandedOn S))

  -- steps lead from the world to one in which node k is this, and which tells what happened
  pub record Leads (w : World) (k : ℕ) (what : Happening) (x : Node) : Type 0 where
    pub events : List Event
    pub world : World
    pub steps : StepsAll Handed w events world
    pub nodes : world.nodes ≡ slice_set w.nodes k x
    pub submitted : world.submitted ≡ w.submitted ++ submitted_at k what
    pub frames : world.frames ≡ w.frames ++ sent_at k what
    pub learnt : world.learnt ≡ w.learnt ++ learnt_at k what
    pub replies : world.replies ≡ w.replies ++ replied_at k what
    pub answers : world.answers ≡ w.answers ++ answered_at k what

  -- nothing is told
  record TellsNothing (k : ℕ) (what : Happening) : Type 0 where
    submitted : submitted_at k what ≡ []
    frames : sent_at k what ≡ []
    learnt : learnt_at k what ≡ []
    replies : replied_at k what ≡ []
    answers : answered_at k what ≡ []

  -- nothing changes
  stays : (w : World) (k : ℕ) (what : Happening) (x : Node) → slice_get w.nodes k ≡ Some x → TellsNothing k what → Leads w k what x
  stays w k what x here none = record {
    events = [];
    world = w;
    steps = refl;
    nodes = set_same w.nodes k x here;
    submitted = none_joins w.submitted (submitted_at k what) none.submitted;
    frames = none_joins w.frames (sent_at k what) none.frames;
    learnt = none_joins w.learnt (learnt_at k what) none.learnt;
    replies = none_joins w.replies (replied_at k what) none.replies;
    answers = none_joins w.answers (answered_at k what) none.answers;
  }

  -- a step by which one node is another, and nothing is told
  quiet_step : (w : World) (e : Event) (k : ℕ) (what : Happening) (x : Node) (v : World) → Steps Handed w e v
      → v.nodes ≡ slice_set w.nodes k x → v.submitted ≡ w.submitted → v.frames ≡ w.frames → v.learnt ≡ w.learnt → v.replies ≡ w.replies
      → v.answers ≡ w.answers → TellsNothing k what → Leads w k what x
  quiet_step w e k what x v h nodes s f l r a none = record {
    events = e ∷ [];
    world = v;
    steps = (v, h, refl);
    nodes = nodes;
    submitted = s ∙ none_joins w.submitted (submitted_at k what) none.submitted;
    frames = f ∙ none_joins w.frames (sent_at k what) none.frames;
    learnt = l ∙ none_joins w.learnt (learnt_at k what) none.learnt;
    replies = r ∙ none_joins w.replies (replied_at k what) none.replies;
    answers = a ∙ none_joins w.answers (answered_at k what) none.answers;
  }

  failed_nothing : (k : ℕ) (i : Input) (f : NodeFault) → TellsNothing k (Took i (Err f))
  failed_nothing k i f = record { submitted = refl; frames = refl; learnt = refl; replies = refl; answers = refl }

  -- ---- an input that a node takes
  -- the world once it is taken
  abbrev taken_in : World → List Bool → ℕ → Node → Result Response NodeFault → World
  taken_in w waiting k x r = recorded (with_node (record w { waiting = waiting }) k x) k r

  takes_at : (w : World) (k : ℕ) (n : Node) (i : Input) (r : Result Response NodeFault) (x : Node)
      → slice_get w.nodes k ≡ Some n → NodeSteps Handed n i r x → StaysMeaning n i r x
      → TakesAt Handed w k i (is_ok r) (recorded (with_node w k x) k r)
  takes_at w k n i r x here steps meaning = record {
    before = n;
    here = here;
    after = x;
    result = r;
    steps = steps;
    meaning = meaning;
    taken_ = refl;
    leaves = refl;
  }

  -- one that submits nothing
  own_step : (w : World) (waiting : List Bool) (e : Event) (k : ℕ) (i : Input) (r : Result Response NodeFault) (x : Node)
      → Steps Handed w e (taken_in w waiting k x r) → request_at k i ≡ [] → Leads w k (Took i r) x
  own_step w waiting e k i (Ok said) x h none = record {
    events = e ∷ [];
    world = taken_in w waiting k x (Ok said);
    steps = (taken_in w waiting k x (Ok said), h, refl);
    nodes = refl;
    submitted = none_joins w.submitted (request_at k i) none;
    frames = refl;
    learnt = refl;
    replies = refl;
    answers = none_joins w.answers [] refl;
  }
  own_step w waiting e k i (Err f) x h none =
      quiet_step w e k (Took i (Err f)) x (taken_in w waiting k x (Err f)) h refl refl refl refl refl refl (failed_nothing k i f)

  -- a request
  submit_step : (w : World) (k : ℕ) (n : Node) (client number : ℕ) (op : Op) (r : Result Response NodeFault) (x : Node) → OpIsValid op
      → TakesAt Handed w k (input.Submit client number op) (is_ok r) (recorded (with_node w k x) k r)
      → Leads w k (Took (input.Submit client number op) r) x
  submit_step w k n client number op (Ok said) x valid h =
      let v : World = with_submission (recorded (with_node w k x) k (Ok said)) true k (submission_of client number op) in
      record {
        events = event.Submit k (submission_of client number op) ∷ [];
        world = v;
        steps = (
          v,
          record {
            valid = valid;
            taken = true;
            between = recorded (with_node w k x) k (Ok said);
            takes = h;
            leaves = refl;
          },
          refl,
        );
        nodes = refl;
        submitted = refl;
        frames = refl;
        learnt = refl;
        replies = refl;
        answers = none_joins w.answers [] refl;
      }
  submit_step w k n client number op (Err f) x valid h =
      let v : World = recorded (with_node w k x) k (Err f) in
      quiet_step w (event.Submit k (submission_of client number op)) k (Took (input.Submit client number op) (Err f)) x v
      (record { valid = valid; taken = false; between = v; takes = h; leaves = refl })
      refl refl refl refl refl refl (failed_nothing k (input.Submit client number op) f)

  -- a message that was sent
  message_step : (w : World) (n : Node) (m : ReplicaState) (e : Envelope) (r : Result Response NodeFault) (x : Node) (j : ℕ)
      → n.up ≡ Some m → slice_get w.frames j ≡ Some e → Fits 7 e → slice_get w.nodes e.to ≡ Some n
      → NodeSteps Handed n (input.Message e) r x → StaysMeaning n (input.Message e) r x → Leads w e.to (Took (input.Message e) r) x
  message_step w n m e r x j up sent fits here steps meaning =
      own_step w (slice_set w.waiting j false) (event.Deliver j) e.to (input.Message e) r x
      (record {
        frame = e;
        sent = sent;
        fits = fits;
        receives = record {
          receiver = n;
          here = here;
          lost = λ down. absurd (none-some m (sym down ∙ up));
          taken = λ there. (is_ok r, takes_at (without_wait w j) e.to n (input.Message e) r x here steps meaning);
        };
      })
      refl

  -- what comes of an input, with a list of puts; where the node is up then nothing is unsure
  pub record Goes (w : World) (k : ℕ) (what : Happening) (new : NodeState S) : Type 0 where
    pub after : Listed
    pub leads : Leads w k what (node_with new after)
    pub sure : IsSome new.up → after.unsure ≡ None

  -- a node that is as it was and says nothing
  ignores : (w : World) (k : ℕ) (old : NodeState S) (g : Listed) (what : Happening) (new : NodeState S)
      → slice_get w.nodes k ≡ Some (node_with old g) → (IsSome old.up → g.unsure ≡ None) → new ≡ old → TellsNothing k what
      → Goes w k what new
  ignores w k old g what new here sure same none = record {
    after = g;
    leads = stays w k what (node_with new g) (here ∙ ap (λ (n : NodeState S). Some (node_with n g)) (sym same)) none;
    sure = λ up. sure (subst (λ (n : NodeState S). IsSome n.up) same up);
  }

  silent_nothing : (k : ℕ) (e : Envelope) (r : Result Response NodeFault) → r ≡ Ok silence → TellsNothing k (Took (input.Message e) r)
  silent_nothing k e r is = subst (λ (q : Result Response NodeFault). TellsNothing k (Took (input.Message e) q)) (sym is)
      (record { submitted = refl; frames = refl; learnt = refl; replies = refl; answers = refl })

  module _ (count : ℕ) (w : World) (k : ℕ) (old : NodeState S) (g : Listed) (here : slice_get w.nodes k ≡ Some (node_with old g))
      (member : IsMember k count (node_with old g)) (sure : IsSome old.up → g.unsure ≡ None) where
    -- what an input comes to
    own_goes : (i : Input) (r : Result Response NodeFault) (new : NodeState S) (s : StepsWith laws old g i r new)
        → StaysMeaning (node_with old g) i r (node_with new s.after)
        → ((x : Node) → TakesAt Handed w k i (is_ok r) (recorded (with_node w k x) k r) → Leads w k (Took i r) x)
        → Goes w k (Took i r) new
    own_goes i r new s meaning leads = record {
      after = s.after;
      leads = leads (node_with new s.after) (takes_at w k (node_with old g) i r (node_with new s.after) here s.steps meaning);
      sure = s.sure;
    }

    message_goes : (m : ReplicaState) (e : Envelope) (r : Result Response NodeFault) (new : NodeState S) (b : Bool) → old.up ≡ Some m
        → is_for_this_run k count e ≡ b → (is_for_this_run k count e ≡ true → Contains w.frames e × Fits 7 e)
        → (s : StepsWith laws old g (input.Message e) r new)
        → StaysMeaning (node_with old g) (input.Message e) r (node_with new s.after) → Goes w k (Took (input.Message e) r) new
    message_goes m e r new true up concerns comes s meaning =
        let came = comes concerns in
        let at = contained_at w.frames e came.0 in
        let to : e.to ≡ k = addressed k count e concerns in
        record {
          after = s.after;
          leads = subst (λ (i : ℕ). Leads w i (Took (input.Message e) r) (node_with new s.after)) to
              (message_step w (node_with old g) m e r (node_with new s.after) at.0 up at.1 came.1
              (subst (λ (i : ℕ). slice_get w.nodes i ≡ Some (node_with old g)) (sym to) here)
              s.steps meaning);
          sure = s.sure;
        }
    message_goes m e r new false up concerns comes s meaning =
        let own = member.up m up in
        let foreign : is_for_this_run m.id m.nodes e ≡ false =
        ap (λ (i : ℕ). is_for_this_run i m.nodes e) own.number ∙ ap (λ (i : ℕ). is_for_this_run k i e) own.of_all ∙ concerns in
        let both = subst (λ (o : Option ReplicaState). IfSome o (λ n. is_for_this_run n.id n.nodes e ≡ false
        → (r ≡ Ok silence) × (node_with new s.after ≡ node_with old g))) up s.steps.ignored foreign in
        record {
          after = s.after;
          leads = stays w k (Took (input.Message e) r) (node_with new s.after) (here ∙ ap (λ (x : Node). Some x) (sym both.1))
              (silent_nothing k e r both.0);
          sure = s.sure;
        }

    -- at a node that is up
    up_goes : (m : ReplicaState) (i : Input) (r : Result Response NodeFault) (new : NodeState S) → old.up ≡ Some m
        → MayCome count w.frames k i → (s : StepsWith laws old g i r new)
        → StaysMeaning (node_with old g) i r (node_with new s.after) → Goes w k (Took i r) new
    up_goes m (input.Submit client number op) r new up comes s meaning = own_goes (input.Submit client number op) r new s meaning
        (λ x takes. submit_step w k (node_with old g) client number op r x comes takes)
    up_goes m (input.Message e) r new up comes s meaning = message_goes m e r new (is_for_this_run k count e) up refl comes s meaning
    up_goes m input.Timeout r new up comes s meaning = own_goes input.Timeout r new s meaning
        (λ x takes. own_step w w.waiting (event.Timeout k) k input.Timeout r x (is_ok r, takes) refl)
    up_goes m input.Tick r new up comes s meaning = own_goes input.Tick r new s meaning
        (λ x takes. own_step w w.waiting (event.Tick k) k input.Tick r x (is_ok r, takes) refl)
    up_goes m input.Checkpoint r new up comes s meaning = own_goes input.Checkpoint r new s meaning
        (λ x takes. own_step w w.waiting (event.Checkpoint k) k input.Checkpoint r x (is_ok r, takes) refl)
    up_goes m input.Trim r new up comes s meaning = own_goes input.Trim r new s meaning
        (λ x takes. own_step w w.waiting (event.Trim k) k input.Trim r x (is_ok r, takes) refl)

    took_goes : (o : Option ReplicaState) (i : Input) (r : Result Response NodeFault) (new : NodeState S) → old.up ≡ o
        → MayCome count w.frames k i → NodeSteps storages old i r new → StaysMeaning old i r new → Goes w k (Took i r) new
    took_goes None i r new up comes h meaning =
        let down = h.down up in
        ignores w k old g (Took i r) new here sure down.1
        (subst (λ (q : Result Response NodeFault). TellsNothing k (Took i q)) (sym down.0) (failed_nothing k i fault.Down))
    took_goes (Some m) i r new up comes h meaning =
        up_goes m i r new up comes
        (steps_with laws old m g i r new up (sure (subst (λ (o : Option ReplicaState). IsSome o) (sym up) refl)) h)
        (record { goes_on = meaning.goes_on; restores = meaning.restores })

    -- the process is killed after the change that an input makes
    killed_goes : (i : Input) (s : S) → MayCome count w.frames k i → IsCutOff storages old i s → Goes w k (Killed i) (reopened old s)
    killed_goes i s comes h =
        let t = up_goes h.replica i (Err fault.Memory) (reopened old s) h.up comes (cut_with laws old g i s sure h) (record {
          goes_on = λ base. nothing_after old.up (λ m. IsMeaningOf base m);
          restores = λ base. nothing_then old.up;
        }) in
        record {
          after = t.after;
          leads = record {
            events = t.leads.events;
            world = t.leads.world;
            steps = t.leads.steps;
            nodes = t.leads.nodes;
            submitted = t.leads.submitted;
            frames = t.leads.frames;
            learnt = t.leads.learnt;
            replies = t.leads.replies;
            answers = t.leads.answers;
          };
          sure = t.sure;
        }

    -- ---- a query
    asked_goes : (query : Query) (r : Result (ℕ × List ℕ) NodeFault) (new : NodeState S) → NodeAnswers old query r
        → AnswersMeaning old query r → new ≡ old → Goes w k (Asked query r) new
    asked_goes query (Ok told) new answers meaning same =
        let v : World = answered w k query (Ok told) in
        let there = here ∙ ap (λ (n : NodeState S). Some (node_with n g)) (sym same) in
        record {
          after = g;
          leads = record {
            events = event.Query k query ∷ [];
            world = v;
            steps = (
              v,
              record {
                asked = node_with old g;
                here = here;
                result = Ok told;
                answers = record {
                  down = answers.down;
                  position_ = answers.position_;
                  answer_ = answers.answer_;
                  memory = answers.memory;
                };
                meaning = record { answers = meaning.answers };
                leaves = refl;
              },
              refl,
            );
            nodes = set_same w.nodes k (node_with new g) there;
            submitted = none_joins w.submitted [] refl;
            frames = none_joins w.frames [] refl;
            learnt = none_joins w.learnt [] refl;
            replies = none_joins w.replies [] refl;
            answers = refl;
          };
          sure = λ up. sure (subst (λ (n : NodeState S). IsSome n.up) same up);
        }
    asked_goes query (Err f) new answers meaning same = ignores w k old g (Asked query (Err f)) new here sure same
        (record { submitted = refl; frames = refl; learnt = refl; replies = refl; answers = refl })

    -- ---- a load
    restart_goes : (what : Happening) (r : Result (Unit {0}) NodeFault) (x : Node) → Restarts Handed (node_with old g) r x
        → IfOk r (λ _. x.storage.unsure ≡ None) → TellsNothing k what → Leads w k what x
    restart_goes what r x restarts settled none =
        quiet_step w (event.Restart k) k what x (with_outcome (with_node w k x) (restart_outcome k r))
        (record {
          before = node_with old g;
          here = here;
          after = x;
          result = r;
          restarts = restarts;
          settled = settled;
          leaves = refl;
        })
        refl refl refl refl refl refl none

    -- whatever happens
    pub happening_goes : (what : Happening) (new : NodeState S) → MayHappen count w.frames k what → Happens storages old what new
        → Goes w k what new
    happening_goes (Took i r) new comes h = took_goes old.up i r new refl comes h.0 h.1
    happening_goes (Killed i) new comes h =
        subst (λ (n : NodeState S). Goes w k (Killed i) n) (sym h.1) (killed_goes i new.storage comes h.0)
    happening_goes (Asked query r) new comes h = asked_goes query r new h.0 h.1 h.2
    happening_goes Opened new comes h =
        let named : reopened old new.storage ≡ new = sym h.1 in
        record {
          after = g;
          leads = subst (λ (n : NodeState S). Leads w k Opened (node_with n g)) named
              (restart_goes Opened (Err fault.Memory) (node_with (reopened old new.storage) g)
              (opens_with laws old new.storage g h.0) tt
              (record { submitted = refl; frames = refl; learnt = refl; replies = refl; answers = refl }));
          sure = λ up. absurd (
              let down : new.up ≡ None = ap (λ (n : NodeState S). n.up) h.1 in
              let bad : IsSome {T = ReplicaState} None = subst (λ (o : Option ReplicaState). IsSome o) down up in
              cc);
        }
    happening_goes (Loaded r) new comes h =
        let l = loads_with laws old g r new h in
        record {
          after = l.after;
          leads = restart_goes (Loaded r) r (node_with new l.after) l.restarts l.settled
              (record { submitted = refl; frames = refl; learnt = refl; replies = refl; answers = refl });
          sure = l.sure;
        }
