-- An input comes to a node that is up: what its roles make of it, and that a fault may stop it.
use Rattle.std.proofs.Common.{◌≡◌, ◌⊎◌, true, false, inl, inr, Some, None, Result, Ok, Err, IfOk, IfErr, IfSome, OnOk}
use Rattle.std.proofs.Common.{MatchBool, refl, sym, ap, ◌∙◌, subst}
use Rattle.std.proofs.lemmas.Option.{IfSome_then}
use Rattle.std.proofs.lemmas.Result.{IfErr-weaker}
use Rattle.stable.specs.declared.stable.Stable.{Ghosts}
use Rattle.node_model.specs.declared.fault.NodeFault.{NodeFault}
use Rattle.node_model.specs.declared.fault.NodeFault.TheVariants.{Device, Memory, Down}
use Rattle.node_model.specs.declared.input.Input.{Input}
use Rattle.node_model.specs.Faults.{is_stop_fault}
use Rattle.node_model.specs.Replicas.{ReplicaState, refuses, Ignores}
use Rattle.node_model.specs.Nodes.{NodeSteps, ReplicaSteps, StaysMeaning, StopsOnInput, RefusesInput, StorageStops}
use Rattle.node_model.specs.Outputs.{Response, silence}
use Rattle.node_model.specs.States.{NodeState}
use Rattle.node_model.specs.Taking.{Takes, Writes}
use Rattle.node_model.proofs.FaultLemmas.{on_ok, made_none, memory_or_refused, storage_too}
use Rattle.node_model.proofs.RefusalLemmas.{refusal_goes_on}

-- one that is down refuses the input
pub steps_down : {S : Type 0} (storages : Ghosts S) (node : NodeState S) (i : Input) → node.up ≡ None
    → NodeSteps storages node i (Err Down) node
steps_down storages node i down = record {
  down = λ _. (refl, refl);
  taken = rw down tt;
  refused = rw down tt;
  ignored = rw down tt;
  refuses_ = rw down tt;
}

pub stays_down : {S : Type 0} (node : NodeState S) (i : Input) → node.up ≡ None → StaysMeaning node i (Err Down) node
stays_down node i down = record { goes_on = λ base. rw down tt; restores = λ base. rw down tt }

-- a fault stops the node, or the input is refused
abbrev Refused : {S : Type 0} → Ghosts S → NodeState S → ReplicaState → Input → NodeFault → NodeState S → Type 0
Refused storages before m i f after =
    MatchBool (is_stop_fault f) (StopsOnInput storages before m i f after) (RefusesInput before m i f after)

-- what a node that is up makes of an input on which it writes nothing
pub steps_unwritten : {S : Type 0} (storages : Ghosts S) (storage : S) (m n : ReplicaState) (i : Input) (r : Result Response NodeFault)
    → storages.reads storage storage → Writes m i None → IfOk r (λ said. Takes m i n said)
    → IfSome (refuses m i) (λ f. (r ≡ Err f) × (n ≡ m)) → IfErr r (λ f. (f ≡ Memory) ⊎ (refuses m i ≡ Some f))
    → (Ignores m i → (r ≡ Ok silence) × (n ≡ m)) → ReplicaSteps storages storage m i r n storage
steps_unwritten storages storage m n i r reads none takes refused err ignored = record {
  takes = takes;
  made = record {
    written = on_ok r (made_none storages storage storage (Writes m i) reads none);
    device = λ is. absurd (memory_or_refused r m i err is);
    memory = λ _. inl reads;
  };
  refused = storage_too r m n storage (refuses m i) refused;
  err = IfErr-weaker r _ _ (λ _ w. inr w) err;
  ignored = λ is. let w = ignored is in (w.0, w.1, refl);
}

module _ {S : Type 0} (storages : Ghosts S) (before : NodeState S) (now : S) (m n : ReplicaState) (i : Input) where
  abbrev up_before : NodeState S
  up_before = record before { up = Some m }

  abbrev between : NodeState S
  between = record before { storage = now; up = Some n }

  same_between : n ≡ m → now ≡ before.storage → between ≡ up_before
  same_between replica storage = λ j. record { id = before.id; nodes = before.nodes; storage = storage j; up = Some (replica j) }

  stopped : (f : NodeFault) (after : NodeState S) → is_stop_fault f ≡ true → StorageStops storages before.storage m i f now
      → after ≡ record between { up = None } → Refused storages up_before m i f after
  stopped f after stops storage leaves =
      rw (stops, leaves) (record { storage = storage; leaves = refl })

  taken_up : (r : Result Response NodeFault) (after : NodeState S) → ReplicaSteps storages before.storage m i r n now
      → OnOk r (after ≡ between) → IfErr r (λ f. is_stop_fault f ≡ false → after ≡ between)
      → IfErr r (λ f. is_stop_fault f ≡ true → after ≡ record between { up = None }) → NodeSteps storages up_before i r after
  taken_up (Ok said) after h same goes_on stops = rw same (record {
    down = λ down. absurd (cc);
    taken = record { replica = n; takes = h.takes; made = h.made.written; leaves = refl };
    refused = tt;
    ignored = λ is. let w = h.ignored is in (w.0, same_between w.1 w.2);
    refuses_ = IfSome_then (refuses m i) h.refused (λ _ w. w.0);
  })
  taken_up (Err f) after h same goes_on stops = record {
    down = λ down. absurd (cc);
    taken = tt;
    refused = elim h.err [
      | inl device ↦ rw device (stopped Device after refl (h.made.device (ap Err device)) (stops (ap is_stop_fault device)))
      | inr (inl memory) ↦ rw memory (stopped Memory after refl (h.made.memory (ap Err memory)) (stops (ap is_stop_fault memory)))
      | inr (inr refused) ↦
          let up = refusal_goes_on m i f refused in
          let w = rw refused at h.refused in
          rw up (record { refused = refused; leaves = goes_on up ∙ same_between w.1 w.2 })
    ];
    ignored = λ is. let w = h.ignored is in absurd (let e = w.0 in cc);
    refuses_ = IfSome_then (refuses m i) h.refused (λ _ w. w.0);
  }

  pub steps_up : (r : Result Response NodeFault) (after : NodeState S) → before.up ≡ Some m
      → ReplicaSteps storages before.storage m i r n now → OnOk r (after ≡ between)
      → IfErr r (λ f. is_stop_fault f ≡ false → after ≡ between)
      → IfErr r (λ f. is_stop_fault f ≡ true → after ≡ record between { up = None }) → NodeSteps storages before i r after
  steps_up r after up h same goes_on stops =
      let is : up_before ≡ before = λ j. record { id = before.id; nodes = before.nodes; storage = before.storage; up = sym up j } in
      subst (λ (b : NodeState S). NodeSteps storages b i r after) is (taken_up r after h same goes_on stops)
