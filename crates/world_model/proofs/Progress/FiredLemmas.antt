-- At most one armed fault comes in a step, so a u64 counts them as long as it counts the steps.
use Rattle.std.proofs.Common.{◌≡◌, ◌⊎◌, ℕ, ◌+◌, ◌^◌, ◌<◌, ◌≤◌, inl, inr, List, [], ◌∷◌, ◌++◌, length, slice_get, slice_set, Bool, true}
use Rattle.std.proofs.Common.{false, Option, Some, None, IfSome, IfOk, IfErr, OnOk, OnErr, IsErrOf, Result, Ok, Err, MatchBool}
use Rattle.std.proofs.Common.{refl, sym, ap, subst, ◌∙◌, arith, rules, length-append}
use Rattle.stable.specs.Script.{Script, counted}
use Rattle.stable.specs.ScriptLaws.{read_fails_inside_fired, read_fails_fired}
use Rattle.stable.specs.Records.{Change}
use Rattle.stable.specs.declared.stable.Stable.{Ghosts}
use Rattle.stable.specs.Storages.{scripted}
use Rattle.acceptor.specs.Accepting.{OptionalWrite, HasWritten, HasFailed}
use Rattle.store.specs.declared.query.Query.{Query}
use Rattle.events.specs.declared.event.Event.{Event}
use Rattle.events.specs.declared.event.Event.TheVariants as event
use Rattle.node_model.specs.declared.fault.NodeFault.{NodeFault}
use Rattle.node_model.specs.declared.fault.NodeFault.TheVariants as fault
use Rattle.events.specs.declared.fault.WorldFault.{WorldFault}
use Rattle.events.specs.declared.fault.WorldFault.TheVariants as world_fault
use Rattle.node_model.specs.declared.input.Input.{Input}
use Rattle.node_model.specs.declared.input.Input.TheVariants as input
use Rattle.world_model.specs.declared.lists.StepOutcome.{StepOutcome}
use Rattle.sessions.specs.declared.submission.Submission.{Submission}
use Rattle.node_model.specs.Faults.{is_stop_fault}
use Rattle.world_model.specs.Fired.{AreHonestInside, IsCounted, AreCounted, HasFewFaults}
use Rattle.world_model.specs.Flushing.{IsStart, Delivers, DeliversSome}
use Rattle.node_model.specs.Loading.{Restarts}
use Rattle.node_model.specs.Replicas.{ReplicaState}
use Rattle.node_model.specs.Nodes.{NodeState, NodeSteps, TakesInput, RefusesInput, StopsOnInput, StorageStops}
use Rattle.node_model.specs.Outputs.{Response}
use Rattle.world_model.specs.Reaching.{AreHonest}
use Rattle.world_model.specs.Safety.{honest_inside}
use Rattle.world_model.specs.Worlds.{WorldState, TakesAt, Steps, recorded, with_node, with_outcome}
use Rattle.world_model.specs.Worlds.{with_submission, answered, without_wait}
use Rattle.world_model.specs.Rounds.{RoundEnds, IsPartOfRound}
use Rattle.world_model.specs.declared.round_end.RoundEnd.{RoundEnd}
use Rattle.world_model.proofs.Steps.MembershipSteps.{set_at}
use Rattle.world_model.proofs.Steps.Preserved.{HoldsOf, step_holds, recorded_nodes}
use Rattle.world_model.proofs.Progress.RoundLemmas.{call_keeps}

-- ---- one call of a storage
-- no armed fault came, or one
abbrev pub CountsOn : {S : Type 0} → Script S → Script S → Type 0
CountsOn a b = (b.fired ≡ a.fired) ⊎ (b.fired ≡ counted a.fired)

-- so it is of every kind of call
pub record CountsCalls {S : Type 0} (storages : Ghosts (Script S)) : Type 0 where
  pub reading : (a b : Script S) → storages.reads a b → CountsOn a b
  pub looking : (a b : Script S) → storages.looks a b → CountsOn a b
  pub failed_reading : (a b : Script S) → storages.read_fails a b → CountsOn a b
  pub changing : (a b : Script S) (change : Change) → storages.changes a change b → CountsOn a b
  pub failed_changing : (a b : Script S) (change : Change) → storages.fails a change b → CountsOn a b

module _ {S : Type 0} (storages : Ghosts S) where
  fails_count : (a b : Script S) (change : Change) → (scripted storages).fails a change b → CountsOn a b
  fails_count a b change (inl f) = inr (ap (λ (t : Script S). t.fired) f.after ∙ ap counted f.before.fired)
  fails_count a b change (inr (inl f)) = inr f.fired
  fails_count a b change (inr (inr (inl f))) = inl (ap (λ (t : Script S). t.fired) f.after ∙ f.before.fired)
  fails_count a b change (inr (inr (inr f))) = inl (read_fails_inside_fired a b f.inner)

  pub script_counts : CountsCalls (scripted storages)
  script_counts = record {
    reading = λ a b r. inl r.fired;
    looking = λ a b l. inl l.read.fired;
    failed_reading = read_fails_fired;
    changing = λ a b change p. inl p.fired;
    failed_changing = fails_count;
  }

-- ---- the count
counted_once : (n : ℕ) → n + 1 < 2 ^ 64 → counted (Some n) ≡ Some (n + 1)
counted_once n small = grind arith

counts_on : (most : ℕ) (before after : Option ℕ) → (after ≡ before) ⊎ (after ≡ counted before) → most + 1 < 2 ^ 64
    → IsCounted most before → IsCounted (most + 1) after
counts_on most None after e small h = absurd (let no_count = h.counted in search rules)
counts_on most (Some n) after (inl e) small h = rw e (record { counted = refl; few = omega (arith, h.few) })
counts_on most (Some n) after (inr e) small h =
    let few : n ≤ most = h.few in
    rw (e, counted_once n (omega (arith, few))) (record { counted = refl; few = omega (arith, few) })

module _ {S : Type 0} where
  -- one node is another, or none is
  one_counted : (most : ℕ) (nodes : List (NodeState (Script S))) (i : ℕ) (before after : NodeState (Script S))
      → slice_get nodes i ≡ Some before
      → CountsOn before.storage after.storage → most + 1 < 2 ^ 64 → AreCounted most nodes → AreCounted (most + 1) (slice_set nodes i after)
  one_counted most nodes i before after here on small h j n e = elim (set_at nodes i j after n e) [
    | inl this ↦ subst (λ (x : NodeState (Script S)). IsCounted (most + 1) x.storage.fired) this.1
        (counts_on most before.storage.fired after.storage.fired on small (h i before here))
    | inr other ↦ counts_on most n.storage.fired n.storage.fired (inl refl) small (h j n other)
  ]

  none_counted : (most : ℕ) (nodes : List (NodeState (Script S))) → most + 1 < 2 ^ 64 → AreCounted most nodes → AreCounted (most + 1) nodes
  none_counted most nodes small h j n e = counts_on most n.storage.fired n.storage.fired (inl refl) small (h j n e)

  -- ---- one step of the world
  -- it has one outcome, and at each node at most one armed fault came
  pub record CountsStep (old new : WorldState S) : Type 0 where
    pub more : length new.outcomes ≡ length old.outcomes + 1
    pub counts : (most : ℕ) → most + 1 < 2 ^ 64 → AreCounted most old.nodes → AreCounted (most + 1) new.nodes

  pub kept : (old new : WorldState S) → CountsStep old new → HasFewFaults old → HasFewFaults new
  kept old new step h = record {
    few = λ small.
        let before : length old.outcomes < 2 ^ 64 = omega (arith, step.more, small) in
        let next : length old.outcomes + 1 < 2 ^ 64 = omega (arith, step.more, small) in
        subst (λ k. AreCounted k new.nodes) (sym step.more) (step.counts (length old.outcomes) next (h.few before));
  }

  changed_one : (old new : WorldState S) (i : ℕ) (before after : NodeState (Script S)) → slice_get old.nodes i ≡ Some before
      → CountsOn before.storage after.storage → new.nodes ≡ slice_set old.nodes i after
      → length new.outcomes ≡ length old.outcomes + 1 → CountsStep old new
  changed_one old new i before after here on nodes more = record {
    more = more;
    counts = λ most small h. subst (λ (x : List (NodeState (Script S))). AreCounted (most + 1) x) (sym nodes)
        (one_counted most old.nodes i before after here on small h);
  }

  changed_none : (old new : WorldState S) → new.nodes ≡ old.nodes → length new.outcomes ≡ length old.outcomes + 1 → CountsStep old new
  changed_none old new nodes more = record {
    more = more;
    counts = λ most small h. subst (λ (x : List (NodeState (Script S))). AreCounted (most + 1) x) (sym nodes)
        (none_counted most old.nodes small h);
  }

  -- an outcome is listed
  abbrev outcome_count : WorldState S → ℕ
  outcome_count w = length w.outcomes

  one_outcome : (outcomes : List StepOutcome) (o : StepOutcome) (w : WorldState S) → w.outcomes ≡ outcomes ++ o ∷ []
      → outcome_count w ≡ length outcomes + 1
  one_outcome outcomes o w e = ap length e ∙ length-append outcomes (o ∷ [])

  recorded_more : (w : WorldState S) (node : ℕ) (r : Result Response NodeFault) → outcome_count (recorded w node r) ≡ outcome_count w + 1
  recorded_more w node (Ok said) = length-append w.outcomes (_ ∷ [])
  recorded_more w node (Err f) = length-append w.outcomes (_ ∷ [])

  submission_same : (w : WorldState S) (taken : Bool) (node : ℕ) (r : Submission)
      → ((with_submission w taken node r).nodes ≡ w.nodes) × ((with_submission w taken node r).outcomes ≡ w.outcomes)
  submission_same w true node r = (refl, refl)
  submission_same w false node r = (refl, refl)

  answered_same : (w : WorldState S) (node : ℕ) (query : Query) (r : Result (ℕ × List ℕ) NodeFault)
      → ((answered w node query r).nodes ≡ w.nodes) × (outcome_count (answered w node query r) ≡ outcome_count w + 1)
  answered_same w node query (Ok told) = (refl, length-append w.outcomes (_ ∷ []))
  answered_same w node query (Err f) = (refl, length-append w.outcomes (_ ∷ []))

  -- an outcome more is told
  pub told_few : (w : WorldState S) (o : StepOutcome) → HasFewFaults w → HasFewFaults (with_outcome w o)
  told_few w o few = kept w (with_outcome w o) (changed_none w (with_outcome w o) refl (length-append w.outcomes (o ∷ []))) few

abbrev failed_with : NodeFault → Result (Unit {0}) NodeFault
failed_with f = Err f

module _ {S : Type 0} {storages : Ghosts (Script S)} (calls : CountsCalls storages) where
  -- ---- an input comes to a node
  written : (a b : Script S) (w : OptionalWrite) → HasWritten storages.reads storages.changes a b w → CountsOn a b
  written a b None h = calls.reading a b h
  written a b (Some w) h = calls.changing a b w h

  failed : (a b : Script S) (w : OptionalWrite) → HasFailed storages.fails a b w → CountsOn a b
  failed a b None h = absurd h
  failed a b (Some w) h = calls.failed_changing a b w h

  same_node : (old new : NodeState (Script S)) → new ≡ old → CountsOn old.storage new.storage
  same_node old new e = inl (ap (λ (n : NodeState (Script S)). n.storage.fired) e)

  stopped : (old new : NodeState (Script S)) (m : ReplicaState) (i : Input) (f : NodeFault) → StorageStops storages old.storage m i f new.storage
      → CountsOn old.storage new.storage
  stopped old new m i fault.Device h = failed old.storage new.storage h.write h.leaves
  stopped old new m i fault.Memory (inl h) = calls.reading old.storage new.storage h
  stopped old new m i fault.Memory (inr h) = written old.storage new.storage h.write h.leaves
  stopped old new m i fault.Down h = absurd h
  stopped old new m i fault.LogFull h = absurd h
  stopped old new m i fault.RoundsUsedUp h = absurd h
  stopped old new m i fault.QueueFull h = absurd h
  stopped old new m i fault.TooLong h = absurd h
  stopped old new m i fault.NothingNew h = absurd h
  stopped old new m i fault.Damaged h = absurd h

  refused : (old new : NodeState (Script S)) (m : ReplicaState) (i : Input) (f : NodeFault) (b : Bool)
      → MatchBool b (StopsOnInput storages old m i f new) (RefusesInput old m i f new) → CountsOn old.storage new.storage
  refused old new m i f true h = stopped old new m i f h.storage
  refused old new m i f false h = same_node old new h.leaves

  by_result : (old new : NodeState (Script S)) (m : ReplicaState) (i : Input) (r : Result Response NodeFault)
      → IfOk r (λ said. TakesInput storages old m i said new)
      → IfErr r (λ f. MatchBool (is_stop_fault f) (StopsOnInput storages old m i f new) (RefusesInput old m i f new))
      → CountsOn old.storage new.storage
  by_result old new m i (Ok said) taken h = written old.storage new.storage taken.made.write taken.made.leaves
  by_result old new m i (Err f) taken h = refused old new m i f (is_stop_fault f) h

  by_replica : (old new : NodeState (Script S)) (i : Input) (r : Result Response NodeFault) (o : Option ReplicaState) → old.up ≡ o
      → NodeSteps storages old i r new → CountsOn old.storage new.storage
  by_replica old new i r None up h = same_node old new (h.down up).1
  by_replica old new i r (Some m) up h =
      by_result old new m i r
      (subst (λ (o : Option ReplicaState). IfSome o (λ n. IfOk r (λ said. TakesInput storages old n i said new))) up h.taken)
      (subst (λ (o : Option ReplicaState). IfSome o (λ n. IfErr r (λ f. MatchBool (is_stop_fault f)
      (StopsOnInput storages old n i f new) (RefusesInput old n i f new)))) up h.refused)

  -- ---- the kinds of step
  takes_counts : (old : WorldState S) (node : ℕ) (i : Input) (taken : Bool) (new : WorldState S) → TakesAt storages old node i taken new
      → CountsStep old new
  takes_counts old node i taken new h =
      changed_one old new node h.before h.after h.here (by_replica h.before h.after i h.result h.before.up refl h.steps)
      (ap (λ (w : WorldState S). w.nodes) h.leaves ∙ recorded_nodes (with_node old node h.after) node h.result)
      (ap outcome_count h.leaves ∙ recorded_more (with_node old node h.after) node h.result)

  -- a node restarts
  restarted : (old new : NodeState (Script S)) (result : Result (Unit {0}) NodeFault) → Restarts storages old result new
      → CountsOn old.storage new.storage
  restarted old new (Ok x) h = calls.looking old.storage new.storage h.up.1
  restarted old new (Err f) h = elim h.other [
    | inl device ↦ calls.failed_reading old.storage new.storage (h.device (ap failed_with device))
    | inr other ↦ calls.looking old.storage new.storage other.1
  ]

  counts : HoldsOf storages (λ old e new. CountsStep old new)
  counts = record {
    takes = λ old e node i taken new h own. takes_counts old node i taken new h;
    submits = λ old e node r new h.
        let same = submission_same h.between h.taken node r in
        let takes = takes_counts old node _ h.taken h.between h.takes in
        record {
          more = ap outcome_count h.leaves ∙ ap length same.1 ∙ takes.more;
          counts = λ most small was. subst (λ (x : List (NodeState (Script S))). AreCounted (most + 1) x)
              (sym (ap (λ (w : WorldState S). w.nodes) h.leaves ∙ same.0)) (takes.counts most small was);
        };
    hears = λ old e k frame taken new sent fits h.
        let takes = takes_counts (without_wait old k) frame.to (input.Message frame) taken new h in
        record { more = takes.more; counts = takes.counts };
    loses = λ old e k o new brings h.
        changed_none old new (ap (λ (w : WorldState S). w.nodes) h) (ap outcome_count h ∙ length-append old.outcomes (_ ∷ []));
    restarts = λ old node new h.
        changed_one old new node h.before h.after h.here (restarted h.before h.after h.result h.restarts)
        (ap (λ (w : WorldState S). w.nodes) h.leaves) (ap outcome_count h.leaves ∙ length-append old.outcomes (_ ∷ []));
    arms = λ old e node failing new h.
        changed_one old new node h.before _ h.here (inl refl)
        (ap (λ (w : WorldState S). w.nodes) h.leaves) (ap outcome_count h.leaves ∙ length-append old.outcomes (_ ∷ []));
    answers = λ old e node query new h.
        let same = answered_same old node query h.result in
        changed_none old new (ap (λ (w : WorldState S). w.nodes) h.leaves ∙ same.0) (ap outcome_count h.leaves ∙ same.1);
  }

  step_counts : (old : WorldState S) (e : Event) (new : WorldState S) → Steps storages old e new → CountsStep old new
  step_counts old e new h = step_holds counts old e new h

  -- one after the other
  pub delivers_few : (old : WorldState S) (n : ℕ) (new : WorldState S) → Delivers storages old n new → HasFewFaults old → HasFewFaults new
  delivers_few old _ new Delivers.none few = few
  delivers_few old _ new (Delivers.more n k between new_ before lowest delivers) few =
      kept between new (step_counts between (event.Deliver k) new delivers) (delivers_few old n between before few)

  pub step_few : (old new : WorldState S) (e : Event) → Steps storages old e new
      → HasFewFaults old → HasFewFaults new
  step_few old new e h few = kept old new (step_counts old e new h) few

abbrev failed_world : WorldFault → Result ℕ WorldFault
failed_world f = Err f

module _ {S : Type 0} (storages : Ghosts S) where
  -- a step, or a refusal
  pub step_keeps_few : (old new : WorldState S) (e : Event) (result : Result (Unit {0}) WorldFault)
      → OnOk result (Steps (scripted storages) old e new)
      → OnErr result (new ≡ old) → HasFewFaults old → HasFewFaults new
  step_keeps_few old new e (Ok x) steps same few =
      step_few (script_counts storages) old new e steps few
  step_keeps_few old new e (Err f) steps same few = subst (λ (w : WorldState S). HasFewFaults w) (sym same) few

  -- a round, whatever comes of it
  pub round_keeps_few : (old new : WorldState S) (node : ℕ) (members : List ℕ) (result : Result RoundEnd WorldFault)
      → IfOk result (λ end. RoundEnds (scripted storages) old node members end new)
      → (IsErrOf result world_fault.NoSuchNode → new ≡ old)
      → (IsErrOf result world_fault.Memory → IsPartOfRound (scripted storages) old node members new)
      → IfErr result (λ f. (f ≡ world_fault.NoSuchNode) ⊎ (f ≡ world_fault.Memory)) → HasFewFaults old → HasFewFaults new
  round_keeps_few old new node members result ends unchanged part faults few =
      call_keeps (scripted storages) (λ w. HasFewFaults w) (λ w e x steps. step_few (script_counts storages) w x e steps) told_few
      old node members few new result ends unchanged part faults

  -- a flush, to its end or to a fault
  abbrev Delivered : WorldState S → ℕ → WorldState S → Type 0
  Delivered = Delivers (scripted storages)

  delivered_few : (old new : WorldState S) (n : ℕ) → Delivered old n new → HasFewFaults old → HasFewFaults new
  delivered_few old new n h few = delivers_few (script_counts storages) old n new h few

  pub flush_keeps_few : (old new : WorldState S) (most : ℕ) (result : Result ℕ WorldFault) → IfOk result (λ n. Delivered old n new)
      → (IsErrOf result world_fault.FlushLimit → Delivered old most new)
      → (IsErrOf result world_fault.Memory → DeliversSome (scripted storages) old most new)
      → IfErr result (λ f. (f ≡ world_fault.FlushLimit) ⊎ (f ≡ world_fault.Memory)) → HasFewFaults old → HasFewFaults new
  flush_keeps_few old new most (Ok n) done limit memory faults few = delivered_few old new n done few
  flush_keeps_few old new most (Err f) done limit memory (inl e) few = delivered_few old new most (limit (ap failed_world e)) few
  flush_keeps_few old new most (Err f) done limit memory (inr e) few =
      let some = memory (ap failed_world e) in
      delivered_few old new some.delivered some.delivers few

module _ {S : Type 0} where
  -- at the start none has come
  pub start_few : (storages : Ghosts (Script S)) (count : ℕ) (w : WorldState S) → IsStart storages count w → HasFewFaults w
  start_few storages count w start = record {
    few = λ small i n e. rw ((start.nodes.each i n e).unused.unfired) (record { counted = refl; few = omega arith });
  }

  -- as long as a u64 counts the outcomes, a storage is honest where the one inside is
  pub honest_outside : (IsHonest : S → Type 0) (w : WorldState S) → length w.outcomes < 2 ^ 64 → HasFewFaults w
      → AreHonestInside IsHonest w.nodes → AreHonest (honest_inside IsHonest) w.nodes
  honest_outside IsHonest w fit few honest i n e =
      let is = few.few fit i n e in
      (honest i n e, is.counted)
