-- A node's next ballot never falls while it stays up.
use Rattle.std.proofs.Common.{◌≡◌, inl, inr, ℕ, ◌+◌, List, slice_get, slice_set, Bool, true, false, Option, Some, None, IfSome}
use Rattle.std.proofs.Common.{MatchBool, Result, Ok, Err, refl, sym, ap, subst, ◌∙◌, arith}
use Rattle.std.specs.Prelude.{max}
use Rattle.stable.specs.Script.{Script}
use Rattle.stable.specs.declared.stable.Stable.{Ghosts}
use Rattle.node_model.specs.Faults.{is_stop_fault}
use Rattle.node_model.specs.Replicas.{ReplicaState}
use Rattle.node_model.specs.Nodes.{NodeState, NodeSteps, TakesInput, StopsOnInput, RefusesInput}
use Rattle.node_model.specs.Outputs.{Response}
use Rattle.node_model.specs.declared.fault.NodeFault.{NodeFault}
use Rattle.node_model.specs.declared.input.Input.{Input}
use Rattle.node_model.specs.declared.input.Input.TheVariants as input
use Rattle.world_model.specs.Progress.{replica_in, replica_at, RestartsNode, BallotsNeverFall}
use Rattle.world_model.specs.Worlds.{WorldState, TakesAt, with_node, without_wait}
use Rattle.world_model.proofs.Progress.Handing.{same_replica, same_or_not, set_here, set_other}
use Rattle.world_model.proofs.Steps.Preserved.{HoldsOf, step_holds, recorded_nodes, submission_nodes, answered_nodes}
use Rattle.world_model.proofs.Progress.RefusedGrows.{Grows, takes_grows}

-- a node that is up before and behind a step has lost none of its rounds
abbrev NotBehind : {S : Type 0} → WorldState S → ℕ → WorldState S → Type 0
NotBehind old node new = (before after : ReplicaState) → replica_at old node ≡ Some before → replica_at new node ≡ Some after → Grows before after

still : (before after : ReplicaState) → before ≡ after → Grows before after
still before after same = subst (λ (m : ReplicaState). Grows before m) same (record { own = refl; refused_ = omega arith; round_ = omega arith })

module _ {S : Type 0} where
  same_nodes : (old new : WorldState S) (node : ℕ) → new.nodes ≡ old.nodes → NotBehind old node new
  same_nodes old new node same before after here there =
      still before after (same_replica before after (sym here
      ∙ (sym (ap (λ (ns : List (NodeState (Script S))). replica_in (slice_get ns node)) same) ∙ there)))

  -- one node was replaced
  replaced : (old new : WorldState S) (k : ℕ) (n m : NodeState (Script S)) → slice_get old.nodes k ≡ Some n
      → new.nodes ≡ slice_set old.nodes k m → ((before after : ReplicaState) → n.up ≡ Some before → m.up ≡ Some after → Grows before after)
      → (node : ℕ) → NotBehind old node new
  replaced old new k n m is leaves grows node before after here there = elim (same_or_not node k) [
    | inl same ↦
        let at_old : n.up ≡ Some before =
        sym (ap (λ (o : Option (NodeState (Script S))). replica_in o) is) ∙ (sym (ap (λ (i : ℕ). replica_at old i) same) ∙ here) in
        let at_new : m.up ≡ Some after =
        sym (ap (λ (ns : List (NodeState (Script S))). replica_in (slice_get ns k)) leaves
        ∙ ap (λ (o : Option (NodeState (Script S))). replica_in o) (set_here old.nodes k n m is))
        ∙ (sym (ap (λ (i : ℕ). replica_at new i) same) ∙ there) in
        grows before after at_old at_new
    | inr other ↦
        let kept : replica_at new node ≡ replica_at old node =
        ap (λ (ns : List (NodeState (Script S))). replica_in (slice_get ns node)) leaves
        ∙ ap (λ (o : Option (NodeState (Script S))). replica_in o) (set_other old.nodes k node m other) in
        still before after (same_replica before after (sym here ∙ (sym kept ∙ there)))
  ]

  module _ (storages : Ghosts (Script S)) where
    -- ---- one node takes an input, refuses it or goes down
    failed_grows : (n m : NodeState (Script S)) (x : ReplicaState) (i : Input) (f : NodeFault) (b : Bool) (before after : ReplicaState)
        → MatchBool b (StopsOnInput storages n x i f m) (RefusesInput n x i f m) → n.up ≡ Some before → m.up ≡ Some after
        → Grows before after
    failed_grows n m x i f true before after h here there =
        let down : m.up ≡ None = ap (λ (k : NodeState (Script S)). k.up) h.leaves in absurd (cc)
    failed_grows n m x i f false before after h here there =
        still before after (same_replica before after (sym here ∙ (sym (ap (λ (k : NodeState (Script S)). k.up) h.leaves) ∙ there)))

    node_grows : (n m : NodeState (Script S)) (i : Input) (r : Result Response NodeFault) (before after : ReplicaState)
        → NodeSteps storages n i r m → n.up ≡ Some before → m.up ≡ Some after → Grows before after
    node_grows n m i (Ok said) before after h here there =
        let t = subst (λ (o : Option ReplicaState). IfSome o (λ k. TakesInput storages n k i said m)) here h.taken in
        let same : t.replica ≡ after =
        same_replica t.replica after (sym (ap (λ (k : NodeState (Script S)). k.up) t.leaves) ∙ there) in
        subst (λ (x : ReplicaState). Grows before x) same (takes_grows before i t.replica said t.takes)
    node_grows n m i (Err f) before after h here there =
        failed_grows n m before i f (is_stop_fault f) before after
        (subst (λ (o : Option ReplicaState). IfSome o (λ k. MatchBool (is_stop_fault f) (StopsOnInput storages n k i f m) (RefusesInput n k i f m)))
        here h.refused) here there

    takes_not_behind : (old : WorldState S) (k : ℕ) (i : Input) (taken : Bool) (new : WorldState S) → TakesAt storages old k i taken new
        → (node : ℕ) → NotBehind old node new
    takes_not_behind old k i taken new h =
        replaced old new k h.before h.after h.here
        (ap (λ (w : WorldState S). w.nodes) h.leaves ∙ recorded_nodes (with_node old k h.after) k h.result)
        (λ before after here there. node_grows h.before h.after i h.result before after h.steps here there)

    with_same : (old mid new : WorldState S) (node : ℕ) → new.nodes ≡ mid.nodes → NotBehind old node mid → NotBehind old node new
    with_same old mid new node same h before after here there =
        h before after here (sym (ap (λ (ns : List (NodeState (Script S))). replica_in (slice_get ns node)) same) ∙ there)

    restarted : (old : WorldState S) (i : ℕ) (after : NodeState (Script S)) (new : WorldState S) → new.nodes ≡ slice_set old.nodes i after
        → (node : ℕ) → (node ≡ i → ⊥) → NotBehind old node new
    restarted old i after new leaves node other was now here there =
        let kept : replica_at new node ≡ replica_at old node =
        ap (λ (ns : List (NodeState (Script S))). replica_in (slice_get ns node)) leaves
        ∙ ap (λ (o : Option (NodeState (Script S))). replica_in o) (set_other old.nodes i node after other) in
        still was now (same_replica was now (sym here ∙ (sym kept ∙ there)))

    no_step_behind : HoldsOf storages (λ old e new. (node : ℕ) → (RestartsNode node e → ⊥) → NotBehind old node new)
    no_step_behind = record {
      takes = λ old e i x taken new h own node not. takes_not_behind old i x taken new h node;
      submits = λ old e i r new h node not.
          with_same old h.between new node (ap (λ (w : WorldState S). w.nodes) h.leaves ∙ submission_nodes h.between h.taken i r)
          (takes_not_behind old i _ h.taken h.between h.takes node);
      hears = λ old e k frame taken new sent fits h node not.
          takes_not_behind (without_wait old k) frame.to (input.Message frame) taken new h node;
      loses = λ old e k o new brings h node not. same_nodes old new node (ap (λ (w : WorldState S). w.nodes) h);
      restarts = λ old i new h node not.
          restarted old i h.after new (ap (λ (w : WorldState S). w.nodes) h.leaves) node (λ same. not (sym same));
      arms = λ old e i failing new h node not.
          replaced old new i h.before _ h.here (ap (λ (w : WorldState S). w.nodes) h.leaves)
          (λ before after here there. still before after (same_replica before after (sym here ∙ there))) node;
      answers = λ old e i query new h node not.
          same_nodes old new node (ap (λ (w : WorldState S). w.nodes) h.leaves ∙ answered_nodes old i query h.result);
    }

    -- so its next ballot is no lower
    pub ballots_never_fall : BallotsNeverFall storages
    ballots_never_fall old e new node h not before after here there b c first next =
        let grows = step_holds no_step_behind old e new h node not before after here there in
        let round_b : b.round ≡ max before.proposer.round before.proposer.refused + 1 = first.round in
        let round_c : c.round ≡ max after.proposer.round after.proposer.refused + 1 = next.round in
        let same : b.node ≡ c.node = first.own ∙ (sym grows.own ∙ sym next.own) in
        omega (arith, round_b, round_c, grows.refused_, grows.round_, same)
