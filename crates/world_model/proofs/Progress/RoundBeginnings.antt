-- How a round begins: the node begins a campaign, goes down on it, or refuses.
use Rattle.std.proofs.Common.{◌≡◌, ℕ, zero, suc, ◌<◌, ◌≤◌, ◌↔◌, List, [], ◌∷◌, Bool, true, false, Option, Some, None, IsSome, IfSome, Err}
use Rattle.std.proofs.Common.{MatchBool, MatchOption, slice_get, slice_set, refl, sym, ap, subst, ◌∙◌, arith, rules}
use Rattle.std.specs.Prelude.{is_some}
use Rattle.synod.specs.declared.slot.TheConstants.{SLOTS}
use Rattle.stable.specs.Script.{Script}
use Rattle.stable.specs.declared.stable.Stable.{Ghosts}
use Rattle.node_model.specs.Faults.{is_stop_fault}
use Rattle.node_model.specs.Replicas.{ReplicaState, position, refuses, is_full}
use Rattle.node_model.specs.Nodes.{NodeState, NodeSteps, RefusesInput, StopsOnInput}
use Rattle.node_model.specs.declared.fault.NodeFault.{NodeFault}
use Rattle.node_model.specs.declared.fault.NodeFault.TheVariants as fault
use Rattle.node_model.specs.declared.input.Input.TheVariants as input
use Rattle.world_model.specs.declared.round_end.RoundEnd.{RoundEnd}
use Rattle.world_model.specs.declared.round_end.RoundEnd.TheVariants.{Refused, Stopped}
use Rattle.world_model.specs.Rounds.{is_up, is_up_node, IsBehind, FailsToBegin, RefusesToBegin, PositionIsAt, MeetingEnds, at_once}
use Rattle.world_model.specs.Worlds.{WorldState, replica_in, TakesAt, with_node, with_outcome, outcome_of}

-- ---- one node of a list
set_here : {A : Type 0} (xs : List A) (i : ℕ) (x y : A) → slice_get xs i ≡ Some x → slice_get (slice_set xs i y) i ≡ Some y
set_here [] i x y e = absurd (cc)
set_here (z ∷ zs) zero x y e = refl
set_here (z ∷ zs) (suc i) x y e = set_here zs i x y e

set_itself : {A : Type 0} (xs : List A) (i : ℕ) (x : A) → slice_get xs i ≡ Some x → slice_set xs i x ≡ xs
set_itself [] i x e = refl
set_itself (z ∷ zs) zero x e = ap (λ (y : _). y ∷ zs) (sym (search (rules, e)))
set_itself (z ∷ zs) (suc i) x e = ap (λ (ys : List _). z ∷ ys) (set_itself zs i x e)

-- ---- a node that is up has a replica
up_replica : (o : Option ReplicaState) → is_some o ≡ true → (m : ReplicaState) × (o ≡ Some m)
up_replica None e = absurd cc
up_replica (Some m) e = (m, refl)

pub replica_of_up : {S : Type 0} (w : WorldState S) (node : ℕ) (n : NodeState (Script S)) → slice_get w.nodes node ≡ Some n
    → is_up w node ≡ true
    → (m : ReplicaState) × (n.up ≡ Some m)
replica_of_up w node n here up =
    up_replica n.up (subst (λ (o : Option (NodeState (Script _))). is_up_node o ≡ true) here up)

by_true : (A B : Type 0) (b : Bool) → b ≡ true → A → MatchBool b A B
by_true A B true e a = a
by_true A B false e a = absurd cc

by_false : (A B : Type 0) (b : Bool) → b ≡ false → B → MatchBool b A B
by_false A B false e x = x
by_false A B true e x = absurd cc

of_true : (A B : Type 0) (b : Bool) → b ≡ true → MatchBool b A B → A
of_true A B true e a = a
of_true A B false e a = absurd cc

of_false : (A B : Type 0) (b : Bool) → b ≡ false → MatchBool b A B → B
of_false A B false e x = x
of_false A B true e x = absurd cc

module _ {S : Type 0} (storages : Ghosts (Script S)) where
  failure : (n : NodeState (Script S)) (m : ReplicaState) (f : NodeFault) (after : NodeState (Script S)) → n.up ≡ Some m
      → NodeSteps storages n input.Timeout (Err f) after
      → MatchBool (is_stop_fault f) (StopsOnInput storages n m input.Timeout f after) (RefusesInput n m input.Timeout f after)
  failure n m f after up h =
      subst (λ (o : Option ReplicaState). IfSome o (λ k. MatchBool (is_stop_fault f)
      (StopsOnInput storages n k input.Timeout f after) (RefusesInput n k input.Timeout f after))) up h.refused

  -- a node that stops is down
  pub fails_to_begin : (old : WorldState S) (node : ℕ) (before after : NodeState (Script S)) (f : NodeFault) (new : WorldState S)
      → slice_get old.nodes node ≡ Some before → NodeSteps storages before input.Timeout (Err f) after → is_up old node ≡ true
      → new ≡ with_outcome (with_node old node after) (outcome_of node f) → TakesAt storages old node input.Timeout false new
      → is_stop_fault f ≡ true
      → MatchBool (is_stop_fault f) (FailsToBegin storages old node new) (RefusesToBegin old node f × (new ≡ old))
  fails_to_begin old node before after f new here steps up leaves takes stops =
      let replica = replica_of_up old node before here up in
      let h = of_true _ _ (is_stop_fault f) stops (failure before replica.0 f after replica.1 steps) in
      let down : after.up ≡ None = ap (λ (n : NodeState (Script S)). n.up) h.leaves in
      let there : slice_get new.nodes node ≡ Some after =
      ap (λ (w : WorldState S). slice_get w.nodes node) leaves ∙ set_here old.nodes node before after here in
      by_true _ _ (is_stop_fault f) stops (record {
        takes = takes;
        down = ap (λ (o : Option (NodeState (Script S))). is_up_node o) there ∙ ap (λ (o : Option ReplicaState). is_some o) down;
      })

  -- one that refuses is as it was
  pub refuses_to_begin : (old : WorldState S) (node : ℕ) (before after : NodeState (Script S)) (f : NodeFault) (new : WorldState S)
      → slice_get old.nodes node ≡ Some before → NodeSteps storages before input.Timeout (Err f) after → is_up old node ≡ true
      → new ≡ with_node old node after → is_stop_fault f ≡ false
      → MatchBool (is_stop_fault f) (FailsToBegin storages old node new) (RefusesToBegin old node f × (new ≡ old))
  refuses_to_begin old node before after f new here steps up leaves stops =
      let replica = replica_of_up old node before here up in
      let h = of_false _ _ (is_stop_fault f) stops (failure before replica.0 f after replica.1 steps) in
      let same : slice_set old.nodes node after ≡ old.nodes =
      ap (λ (n : NodeState (Script S)). slice_set old.nodes node n) h.leaves ∙ set_itself old.nodes node before here in
      by_false _ _ (is_stop_fault f) stops (
        record { state = before; here = here; replica = replica.0; up = replica.1; refused = h.refused },
        leaves ∙ ap (λ (ns : List (NodeState (Script S))). record old { nodes = ns }) same,
      )

-- a position below the end of the log is a slot; at the end a campaign is refused
full_refuses : (m : ReplicaState) → SLOTS ≤ position m → refuses m input.Timeout ≡ Some fault.LogFull
full_refuses m full =
    let is : is_full m ≡ true = grind (arith, full) in
    rw is refl

pub slot_stands : {S : Type 0} (w : WorldState S) (node : ℕ) (n : NodeState (Script S)) (slot : Option ℕ) (p : ℕ)
    → slice_get w.nodes node ≡ Some n → is_up w node ≡ true → MatchOption n.up (p ≡ 0) (λ m. p ≡ position m)
    → IsSome slot ↔ (p < SLOTS) → IfSome slot (λ s. s ≡ p)
    → MatchOption slot (RefusesToBegin w node fault.LogFull) (PositionIsAt w node)
slot_stands w node n None p here up at valid value =
    let replica = replica_of_up w node n here up in
    let stands : p ≡ position replica.0 = subst (λ (o : Option ReplicaState). MatchOption o (p ≡ 0) (λ m. p ≡ position m)) replica.1 at in
    let not : p < SLOTS → ⊥ = λ less. search (rules, valid, less) in
    record { state = n; here = here; replica = replica.0; up = replica.1; refused = full_refuses replica.0 (grind (arith, not, stands)) }
slot_stands w node n (Some s) p here up at valid value =
    let replica = replica_of_up w node n here up in
    let stands : p ≡ position replica.0 = subst (λ (o : Option ReplicaState). MatchOption o (p ≡ 0) (λ m. p ≡ position m)) replica.1 at in
    record { state = n; here = here; replica = replica.0; up = replica.1; position_ = value ∙ stands }

-- ---- a node that is up is behind another where its position is below the floor there
module _ {S : Type 0} (w : WorldState S) (node other : ℕ) where
  abbrev IsFloorOf : ℕ → Option ReplicaState → Type 0
  IsFloorOf floor up = MatchOption up (floor ≡ 0) (λ m. floor ≡ m.acceptor.floor)

  above_none : (up : Option ReplicaState) (p floor : ℕ) → IsFloorOf floor up → p < floor
      → (m : ReplicaState) × (up ≡ Some m) × (floor ≡ m.acceptor.floor)
  above_none None p floor none less = absurd (omega (arith, none, less))
  above_none (Some m) p floor is less = (m, refl, is)

  pub behind_where : (n m : NodeState (Script S)) (p floor : ℕ) → slice_get w.nodes node ≡ Some n → slice_get w.nodes other ≡ Some m
      → is_up w node ≡ true → MatchOption n.up (p ≡ 0) (λ x. p ≡ position x) → IsFloorOf floor m.up
      → (p < floor) ↔ IsBehind w node other
  behind_where n m p floor here there up at is =
      let own_replica = ap (λ (o : Option (NodeState (Script S))). replica_in o) here in
      let other_replica = ap (λ (o : Option (NodeState (Script S))). replica_in o) there in (
        λ less.
            let own = replica_of_up w node n here up in
            let stands = subst (λ (o : Option ReplicaState). MatchOption o (p ≡ 0) (λ x. p ≡ position x)) own.1 at in
            let far = above_none m.up p floor is less in
            record {
              own = own.0;
              here = own_replica ∙ own.1;
              other = far.0;
              there = other_replica ∙ far.1;
              above = omega (arith, less, stands, far.2);
            },
        λ h.
            let stands = subst (λ (o : Option ReplicaState). MatchOption o (p ≡ 0) (λ x. p ≡ position x)) (sym own_replica ∙ h.here) at in
            let far = subst (λ (o : Option ReplicaState). IsFloorOf floor o) (sym other_replica ∙ h.there) is in
            omega (arith, h.above, stands, far),
      )

  -- behind one that isn't there it is not
  pub behind_nobody : slice_get w.nodes other ≡ None → IsBehind w node other → ⊥
  behind_nobody none h =
      let never : Some h.other ≡ None = sym h.there ∙ ap (λ (o : Option (NodeState (Script S))). replica_in o) none in absurd (cc)

module _ {S : Type 0} (storages : Ghosts (Script S)) (old : WorldState S) (node : ℕ) (members : List ℕ) (f : NodeFault) (end : RoundEnd)
    (new : WorldState S) where
  by_fault : (b : Bool) → MatchBool b (FailsToBegin storages old node new) (RefusesToBegin old node f × (new ≡ old))
      → MatchBool b (end ≡ Stopped node) (end ≡ Refused f) → MeetingEnds storages old node members end new
  by_fault true h told = subst (λ e. MeetingEnds storages old node members e new) (sym told) (at_once h refl)
  by_fault false h told = subst (λ e. MeetingEnds storages old node members e new) (sym told) h

-- a round ends at once whose node has not begun a campaign
pub without : {S : Type 0} (storages : Ghosts (Script S)) (old mid : WorldState S) (node : ℕ) (members : List ℕ) (f : NodeFault)
    (end : RoundEnd)
    (new : WorldState S) → mid ≡ old
    → MatchBool (is_stop_fault f) (FailsToBegin storages mid node new) (RefusesToBegin mid node f × (new ≡ mid))
    → MatchBool (is_stop_fault f) (end ≡ Stopped node) (end ≡ Refused f) → MeetingEnds storages old node members end new
without {S} storages old mid node members f end new same h told =
    subst (λ (w : WorldState S). MeetingEnds storages w node members end new) same
    (by_fault storages mid node members f end new (is_stop_fault f) h told)
