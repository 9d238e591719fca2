-- No promise falls, whatever comes of a node: its records go on saying as much, and it holds what they say.
use Rattle.std.proofs.Common.{◌≡◌, ℕ, ◌≤◌, inl, inr, List, [], ◌∷◌, slice_get, slice_set, Bool, true, false, Option, Some, None}
use Rattle.std.proofs.Common.{IfSome, IfOk, IfErr, MatchBool, Result, Ok, Err, refl, sym, ap, subst, ◌∙◌, arith}
use Rattle.std.proofs.lemmas.Option.{same_Some, none-some}
use Rattle.synod.specs.Ballots.{rank_of}
use Rattle.stable.specs.Records.{Records}
use Rattle.stable.specs.Script.{Script}
use Rattle.stable.specs.declared.scripted.Failing.{Failing}
use Rattle.stable.specs.declared.stable.Stable.{Ghosts}
use Rattle.stable.specs.Storages.{IsLawful}
use Rattle.acceptor.specs.Accepting.{Accepting, OptionalWrite, RecordsSay, records_after}
use Rattle.acceptor.proofs.SayingOne.{one_promise}
use Rattle.events.specs.declared.event.Event.{Event}
use Rattle.node_model.specs.declared.fault.NodeFault.{NodeFault}
use Rattle.node_model.specs.declared.fault.NodeFault.TheVariants as fault
use Rattle.node_model.specs.declared.input.Input.{Input}
use Rattle.node_model.specs.declared.input.Input.TheVariants as input
use Rattle.node_model.specs.Faults.{is_stop_fault}
use Rattle.node_model.specs.Loading.{IsLoaded, Restarts}
use Rattle.node_model.specs.Replicas.{ReplicaState, refuses}
use Rattle.node_model.specs.Nodes.{NodeState, NodeSteps, TakesInput, RefusesInput, StopsOnInput, StorageStops}
use Rattle.node_model.specs.Outputs.{Response}
use Rattle.node_model.specs.Protocol.{InputFits, HoldsRecords, ReplicaStands, RecordsHold, accepting_after, round_after}
use Rattle.node_model.specs.Taking.{Writes}
use Rattle.node_model.proofs.AllowedLoading.{loaded_holds}
use Rattle.node_model.proofs.RecordsGoOn.{written_holds, taken_holds}
use Rattle.node_model.proofs.RefusalLemmas.{refusal_goes_on}
use Rattle.world_model.specs.Progress.{StepsAll, PromisesNeverFall}
use Rattle.world_model.specs.Reaching.{AreHonest, IsAllowed}
use Rattle.world_model.specs.Worlds.{WorldState, TakesAt, with_node, without_wait}
use Rattle.world_model.proofs.Steps.MembershipSteps.{set_at}
use Rattle.world_model.proofs.OneNode.FloorLemmas.{promise_after}
use Rattle.world_model.proofs.OneNode.ListedPuts.{KeepsPuts}
use Rattle.world_model.proofs.Refinement.OfTheRun.{node_of, held}
use Rattle.world_model.proofs.Steps.Preserved.{HoldsOf, step_holds, recorded_nodes, submission_nodes, answered_nodes}
use Rattle.world_model.proofs.OneNode.RestartLemmas.{loads_or_down, restart_contents}
use Rattle.world_model.proofs.SoundSteps.{was_honest}
use Rattle.world_model.proofs.OneNode.StorageLaws.{written_contents, failed_contents}
use Rattle.world_model.proofs.Refinement.WorldMoves.{set_there}

-- what is to be refused stops no node, and is not taken
pub unrefused : (m : ReplicaState) (i : Input) (r : Result Response NodeFault) (o : Option NodeFault) → refuses m i ≡ o
    → IfSome o (λ g. r ≡ Err g) → ((g : NodeFault) → r ≡ Err g → is_stop_fault g ≡ true) → refuses m i ≡ None
unrefused m i r None e h stops = e
unrefused m i r (Some g) e h stops =
    let bad : true ≡ false = sym (stops g h) ∙ refusal_goes_on m i g e in
    absurd (cc)

module _ {S : Type 0} (contents : Script S → Records) where
  -- a node's records say what an acceptor holds, and where it is up it holds what they say
  record IsRecorded (n : NodeState (Script S)) : Type 0 where
    acceptor : Accepting
    round : ℕ
    holds : RecordsHold (contents n.storage) acceptor round
    up : (m : ReplicaState) → n.up ≡ Some m → HoldsRecords m (contents n.storage)

  -- whoever loads the records of the one later has promised no less than who loads those of the other now
  abbrev IsNotLower : NodeState (Script S) → NodeState (Script S) → Type 0
  IsNotLower old new = (a b : Accepting) → RecordsSay (contents old.storage) a → RecordsSay (contents new.storage) b
      → rank_of a.promise ≤ rank_of b.promise

  record Keeps (old new : NodeState (Script S)) : Type 0 where
    recorded : IsRecorded new
    not_lower : IsNotLower old new

  -- the records are the same
  keeps_same : (old new : NodeState (Script S)) → contents new.storage ≡ contents old.storage → IsRecorded old
      → ((m : ReplicaState) → new.up ≡ Some m → HoldsRecords m (contents old.storage)) → Keeps old new
  keeps_same old new same was up = record {
    recorded = record {
      acceptor = was.acceptor;
      round = was.round;
      holds = subst (λ (r : Records). RecordsHold r was.acceptor was.round) (sym same) was.holds;
      up = λ m e. subst (λ (r : Records). HoldsRecords m r) (sym same) (up m e);
    };
    not_lower = λ a b says said.
        let one : rank_of a.promise ≡ rank_of b.promise =
        one_promise (contents old.storage) a b says (subst (λ (r : Records). RecordsSay r b) same said) in
        omega (arith, one);
  }

  -- the node is the same
  keeps_node : (old new : NodeState (Script S)) → new ≡ old → IsRecorded old → Keeps old new
  keeps_node old new same was =
      keeps_same old new (ap (λ (n : NodeState (Script S)). contents n.storage) same) was
      (λ m e. was.up m (sym (ap (λ (n : NodeState (Script S)). n.up) same) ∙ e))

  -- the write of an input is made
  keeps_written : (old new : NodeState (Script S)) (m : ReplicaState) (i : Input) (w : OptionalWrite)
      → contents new.storage ≡ records_after (contents old.storage) w → refuses m i ≡ None → Writes m i w → InputFits i
      → HoldsRecords m (contents old.storage)
      → ((k : ReplicaState) → new.up ≡ Some k → HoldsRecords k (records_after (contents old.storage) w)) → Keeps old new
  keeps_written old new m i w written none writes fits holds up =
      let then : RecordsHold (records_after (contents old.storage) w) (accepting_after m i) (round_after m i) =
      written_holds m i (contents old.storage) w none writes fits holds in
      record {
        recorded = record {
          acceptor = accepting_after m i;
          round = round_after m i;
          holds = subst (λ (r : Records). RecordsHold r (accepting_after m i) (round_after m i)) (sym written) then;
          up = λ k e. subst (λ (r : Records). HoldsRecords k r) (sym written) (up k e);
        };
        not_lower = λ a b says said.
            let before : rank_of a.promise ≡ rank_of m.acceptor.promise =
            one_promise (contents old.storage) a m.acceptor says holds.acceptor in
            let after : rank_of b.promise ≡ rank_of (accepting_after m i).promise =
            one_promise (records_after (contents old.storage) w) b (accepting_after m i)
            (subst (λ (r : Records). RecordsSay r b) written said) then.acceptor in
            let rises = promise_after m i in
            omega (arith, before, after, rises);
      }

  down_holds_nothing : (new : NodeState (Script S)) (P : ReplicaState → Type 0) → new.up ≡ None → (m : ReplicaState) → new.up ≡ Some m → P m
  down_holds_nothing new P down m e = absurd (none-some m (sym down ∙ e))

module _ {S : Type 0} {storages : Ghosts (Script S)} (laws : IsLawful storages)
    (armed_honest : (s : Script S) (f : Failing) → storages.IsHonest (record s { armed = Some f }) → storages.IsHonest s)
    (armed_contents : (s : Script S) (f : Failing) → storages.contents (record s { armed = Some f }) ≡ storages.contents s)
    (lists : KeepsPuts storages) where
  abbrev Recorded : NodeState (Script S) → Type 0
  Recorded = IsRecorded storages.contents

  abbrev NodeKeeps : NodeState (Script S) → NodeState (Script S) → Type 0
  NodeKeeps = Keeps storages.contents

  -- ---- an input
  stopped_keeps : (old new : NodeState (Script S)) (m : ReplicaState) (i : Input) (f : NodeFault) → old.up ≡ Some m
      → StorageStops storages old.storage m i f new.storage → new.up ≡ None → refuses m i ≡ None → InputFits i
      → storages.IsHonest new.storage → Recorded old → NodeKeeps old new
  stopped_keeps old new m i fault.Device up h down none fits honest was =
      elim (failed_contents laws old.storage new.storage h.write h.leaves honest) [
        | inl same ↦ keeps_same storages.contents old new same was
            (down_holds_nothing storages.contents new (λ k. HoldsRecords k (storages.contents old.storage)) down)
        | inr written ↦ keeps_written storages.contents old new m i h.write written none h.made fits (was.up m up)
            (down_holds_nothing storages.contents new (λ k. HoldsRecords k (records_after (storages.contents old.storage) h.write)) down)
      ]
  stopped_keeps old new m i fault.Memory up (inl h) down none fits honest was =
      keeps_same storages.contents old new (laws.reads_contents old.storage new.storage h honest) was
      (down_holds_nothing storages.contents new (λ k. HoldsRecords k (storages.contents old.storage)) down)
  stopped_keeps old new m i fault.Memory up (inr h) down none fits honest was =
      keeps_written storages.contents old new m i h.write (written_contents laws old.storage new.storage h.write h.leaves honest) none h.made
      fits (was.up m up)
      (down_holds_nothing storages.contents new (λ k. HoldsRecords k (records_after (storages.contents old.storage) h.write)) down)
  stopped_keeps old new m i fault.Down up h down none fits honest was = absurd h
  stopped_keeps old new m i fault.LogFull up h down none fits honest was = absurd h
  stopped_keeps old new m i fault.RoundsUsedUp up h down none fits honest was = absurd h
  stopped_keeps old new m i fault.QueueFull up h down none fits honest was = absurd h
  stopped_keeps old new m i fault.TooLong up h down none fits honest was = absurd h
  stopped_keeps old new m i fault.NothingNew up h down none fits honest was = absurd h
  stopped_keeps old new m i fault.Damaged up h down none fits honest was = absurd h

  abbrev failed : NodeFault → Result Response NodeFault
  failed f = Err f

  abbrev took : Response → Result Response NodeFault
  took said = Ok said

  failed_keeps : (old new : NodeState (Script S)) (m : ReplicaState) (i : Input) (f : NodeFault) (b : Bool) → is_stop_fault f ≡ b → old.up ≡ Some m
      → MatchBool b (StopsOnInput storages old m i f new) (RefusesInput old m i f new) → IfSome (refuses m i) (λ g. failed f ≡ Err g)
      → InputFits i → storages.IsHonest new.storage → Recorded old → NodeKeeps old new
  failed_keeps old new m i f true stops up h none fits honest was =
      stopped_keeps old new m i f up h.storage (ap (λ (n : NodeState (Script S)). n.up) h.leaves)
      (unrefused m i (failed f) (refuses m i) refl none (λ g e. let same : f ≡ g = cc in sym (ap is_stop_fault same) ∙ stops)) fits honest was
  failed_keeps old new m i f false stops up h none fits honest was = keeps_node storages.contents old new h.leaves was

  up_keeps : (old new : NodeState (Script S)) (m : ReplicaState) (i : Input) (r : Result Response NodeFault) → old.up ≡ Some m
      → IfOk r (λ said. TakesInput storages old m i said new)
      → IfErr r (λ f. MatchBool (is_stop_fault f) (StopsOnInput storages old m i f new) (RefusesInput old m i f new))
      → IfSome (refuses m i) (λ g. r ≡ Err g) → InputFits i → storages.IsHonest new.storage → Recorded old → NodeKeeps old new
  up_keeps old new m i (Ok said) up h refused none fits honest was =
      let unrefused_ : refuses m i ≡ None =
      unrefused m i (took said) (refuses m i) refl none (λ g e. absurd (cc)) in
      let w : OptionalWrite = h.made.write in
      keeps_written storages.contents old new m i w (written_contents laws old.storage new.storage w h.made.leaves honest) unrefused_
      h.made.made fits (was.up m up)
      (λ k e.
      let same : h.replica ≡ k = same_Some h.replica k (sym (ap (λ (n : NodeState (Script S)). n.up) h.leaves) ∙ e) in
      subst (λ (x : ReplicaState). HoldsRecords x (records_after (storages.contents old.storage) w)) same
      (taken_holds m i h.replica said (storages.contents old.storage) w unrefused_ h.takes h.made.made fits (was.up m up)))
  up_keeps old new m i (Err f) up taken h none fits honest was =
      failed_keeps old new m i f (is_stop_fault f) refl up h none fits honest was

  node_keeps : (old new : NodeState (Script S)) (i : Input) (r : Result Response NodeFault) (o : Option ReplicaState) → old.up ≡ o
      → NodeSteps storages old i r new → InputFits i → storages.IsHonest new.storage → Recorded old → NodeKeeps old new
  node_keeps old new i r None up h fits honest was = keeps_node storages.contents old new (h.down up).1 was
  node_keeps old new i r (Some m) up h fits honest was =
      up_keeps old new m i r up
      (subst (λ (o : Option ReplicaState). IfSome o (λ n. IfOk r (λ said. TakesInput storages old n i said new))) up h.taken)
      (subst (λ (o : Option ReplicaState). IfSome o (λ n. IfErr r (λ f. MatchBool (is_stop_fault f)
      (StopsOnInput storages old n i f new) (RefusesInput old n i f new)))) up h.refused)
      (subst (λ (o : Option ReplicaState). IfSome o (λ n. IfSome (refuses n i) (λ g. r ≡ Err g))) up h.refuses_) fits honest was

  -- ---- a restart
  restart_keeps : (old new : NodeState (Script S)) (r : Result (Unit {0}) NodeFault) → Restarts storages old r new
      → storages.IsHonest new.storage → Recorded old → NodeKeeps old new
  restart_keeps old new r h honest was =
      keeps_same storages.contents old new (restart_contents laws old new r h honest) was
      (λ m e.
      let loads : IsLoaded (storages.contents old.storage) old.id old.nodes m =
      held (IsLoaded (storages.contents old.storage) old.id old.nodes) new.up m e (loads_or_down old new r h honest) in
      loaded_holds (storages.contents old.storage) old.id old.nodes m loads was.acceptor was.round was.holds)

  -- ---- all nodes
  abbrev Nodes : Type 0
  Nodes = List (NodeState (Script S))

  abbrev AllRecorded : Nodes → Type 0
  AllRecorded nodes = (i : ℕ) (n : NodeState (Script S)) → slice_get nodes i ≡ Some n → Recorded n

  abbrev Honest : Nodes → Type 0
  Honest nodes = AreHonest storages.IsHonest nodes

  -- each node has come from what it was
  record KeptOf (nodes : Nodes) (i : ℕ) (now : NodeState (Script S)) : Type 0 where
    was : NodeState (Script S)
    here : slice_get nodes i ≡ Some was
    keeps : NodeKeeps was now

  abbrev AllKept : Nodes → Nodes → Type 0
  AllKept old new = (i : ℕ) (n : NodeState (Script S)) → slice_get new i ≡ Some n → KeptOf old i n

  none_changed : (old new : Nodes) → new ≡ old → AllRecorded old → AllKept old new
  none_changed old new same was i n here =
      let there : slice_get old i ≡ Some n = sym (ap (λ (ns : Nodes). slice_get ns i) same) ∙ here in
      record { was = n; here = there; keeps = keeps_node storages.contents n n refl (was i n there) }

  one_changed : (old new : Nodes) (k : ℕ) (before after : NodeState (Script S)) → slice_get old k ≡ Some before
      → new ≡ slice_set old k after → Honest new → AllRecorded old
      → (storages.IsHonest after.storage → Recorded before → NodeKeeps before after) → AllKept old new
  one_changed old new k before after here nodes honest was keeps i n there =
      let own : storages.IsHonest after.storage =
      honest k after (ap (λ (ns : Nodes). slice_get ns k) nodes ∙ set_there old k after before here) in
      elim (set_at old k i after n (sym (ap (λ (ns : Nodes). slice_get ns i) nodes) ∙ there)) [
        | inl this ↦ record {
          was = before;
          here = ap (λ (j : ℕ). slice_get old j) this.0 ∙ here;
          keeps = subst (λ (x : NodeState (Script S)). NodeKeeps before x) this.1 (keeps own (was k before here));
        }
        | inr other ↦ record { was = n; here = other; keeps = keeps_node storages.contents n n refl (was i n other) }
      ]

  takes_kept : (old : WorldState S) (node : ℕ) (i : Input) (taken : Bool) (new : WorldState S) → TakesAt storages old node i taken new
      → InputFits i → Honest new.nodes → AllRecorded old.nodes → AllKept old.nodes new.nodes
  takes_kept old node i taken new h fits honest was =
      one_changed old.nodes new.nodes node h.before h.after h.here
      (ap (λ (w : WorldState S). w.nodes) h.leaves ∙ recorded_nodes (with_node old node h.after) node h.result) honest was
      (λ own recorded. node_keeps h.before h.after i h.result h.before.up refl h.steps fits own recorded)

  -- ---- one step
  steps_keep : HoldsOf storages (λ old e new. Honest new.nodes → AllRecorded old.nodes → AllKept old.nodes new.nodes)
  steps_keep = record {
    takes = λ old e node i taken new h own honest was. takes_kept old node i taken new h own.fits honest was;
    submits = λ old e node r new h honest was.
        let nodes : new.nodes ≡ h.between.nodes = ap (λ (w : WorldState S). w.nodes) h.leaves ∙ submission_nodes h.between h.taken node r in
        subst (λ (ns : Nodes). AllKept old.nodes ns) (sym nodes)
        (takes_kept old node (input.Submit r.client r.number r.op) h.taken h.between h.takes tt
        (subst (λ (ns : Nodes). Honest ns) nodes honest) was);
    hears = λ old e k frame taken new sent fits h honest was.
        takes_kept (without_wait old k) frame.to (input.Message frame) taken new h fits.message honest was;
    loses = λ old e k o new brings h honest was. none_changed old.nodes new.nodes (ap (λ (w : WorldState S). w.nodes) h) was;
    restarts = λ old node new h honest was.
        one_changed old.nodes new.nodes node h.before h.after h.here (ap (λ (w : WorldState S). w.nodes) h.leaves) honest was
        (restart_keeps h.before h.after h.result h.restarts);
    arms = λ old e node failing new h honest was.
        let after : NodeState (Script S) = record h.before { storage = record h.before.storage { armed = Some failing } } in
        one_changed old.nodes new.nodes node h.before after h.here (ap (λ (w : WorldState S). w.nodes) h.leaves) honest was
        (λ own recorded. keeps_same storages.contents h.before after (armed_contents h.before.storage failing) recorded recorded.up);
    answers = λ old e node query new h honest was.
        none_changed old.nodes new.nodes (ap (λ (w : WorldState S). w.nodes) h.leaves ∙ answered_nodes old node query h.result) was;
  }

  -- ---- one after the other
  -- where every storage is honest at the end it was so all along
  honest_all_along : (old : WorldState S) (events : List Event) (new : WorldState S) → StepsAll storages old events new → Honest new.nodes
      → Honest old.nodes
  honest_all_along old [] new h honest = subst (λ (w : WorldState S). Honest w.nodes) h honest
  honest_all_along old (e ∷ more) new h honest =
      step_holds (was_honest laws armed_honest armed_contents lists) old e h.0 h.1 (honest_all_along h.0 more new h.2 honest)

  all_keep : (old : WorldState S) (events : List Event) (new : WorldState S) → StepsAll storages old events new → Honest new.nodes
      → AllRecorded old.nodes → AllKept old.nodes new.nodes
  all_keep old [] new h honest was i n here = none_changed old.nodes new.nodes (ap (λ (w : WorldState S). w.nodes) h) was i n here
  all_keep old (e ∷ more) new h honest was i n here =
      let then : AllKept old.nodes h.0.nodes =
      step_holds steps_keep old e h.0 h.1 (honest_all_along h.0 more new h.2 honest) was in
      let last : KeptOf h.0.nodes i n =
      all_keep h.0 more new h.2 honest (λ j m there. (then j m there).keeps.recorded) i n here in
      let first : KeptOf old.nodes i last.was = then i last.was last.here in
      let mid = first.keeps.recorded in
      record {
        was = first.was;
        here = first.here;
        keeps = record {
          recorded = last.keeps.recorded;
          not_lower = λ a b says said.
              let low = first.keeps.not_lower a mid.acceptor says mid.holds.acceptor in
              let high = last.keeps.not_lower mid.acceptor b mid.holds.acceptor said in
              omega (arith, low, high);
        };
      }

  allowed_recorded : (w : WorldState S) → IsAllowed storages.contents w.nodes w.frames w.learnt w.submitted → AllRecorded w.nodes
  allowed_recorded w allowed i n here =
      let at = allowed.stands.node i n here in
      record {
        acceptor = at.stands.records.acceptor;
        round = at.stands.records.round;
        holds = at.stands.records.holds;
        up = λ m e. (held (λ (k : ReplicaState). HoldsRecords k (storages.contents n.storage) × ReplicaStands k at.after) n.up m e at.stands.up).0;
      }

  -- so no promise falls
  pub promises_never_fall : PromisesNeverFall storages
  promises_never_fall old events new node allowed honest steps before after here there =
      let was : AllRecorded old.nodes = allowed_recorded old allowed in
      let first = node_of (slice_get old.nodes node) before here in
      let last = node_of (slice_get new.nodes node) after there in
      let kept : KeptOf old.nodes node last.0 = all_keep old events new steps honest was node last.0 last.1 in
      let same : kept.was ≡ first.0 = same_Some kept.was first.0 (sym kept.here ∙ first.1) in
      kept.keeps.not_lower before.acceptor after.acceptor
      (subst (λ (n : NodeState (Script S)). RecordsSay (storages.contents n.storage) before.acceptor) (sym same)
      ((was node first.0 first.1).up before first.2).acceptor)
      (kept.keeps.recorded.up after last.2).acceptor
