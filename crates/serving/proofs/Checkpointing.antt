-- After a turn no checkpoint is due at the node.
use Rattle.std.proofs.Common.{◌≡◌, ◌+◌, ◌<◌, ◌≤◌, ◌↔◌, ℕ, Bool, true, false, IsTrue, nat_le, Option, Some, None, IfSome, MatchBool, MatchOption, Result, Ok, Err, ◌++◌, refl, sym, ap, subst, ◌∙◌, append-nil, arith}
use Rattle.std.proofs.lemmas.Bool.{cond_both, leb-false, leb-true}
use Rattle.stable.specs.declared.stable.Stable.{Ghosts}
use Rattle.node_model.specs.Faults.{is_stop_fault}
use Rattle.node_model.specs.Nodes.{NodeState, NodeSteps, RefusesInput, StopsOnInput, TakesInput}
use Rattle.node_model.specs.Outputs.{Response, silence}
use Rattle.node_model.specs.Taking.{Takes}
use Rattle.node_model.specs.Replicas.{ReplicaState, position, refuses}
use Rattle.node_model.specs.declared.fault.NodeFault.{NodeFault}
use Rattle.node_model.specs.declared.fault.NodeFault.TheVariants as node_fault
use Rattle.node_model.specs.declared.input.Input.{Input}
use Rattle.node_model.specs.declared.input.Input.TheVariants as input
use Rattle.world_model.specs.Lives.{Took}
use Rattle.life.specs.Lives.{GoesOn, LifeState}
use Rattle.life.specs.Telling.{to_itself}
use Rattle.serving.specs.Knowing.{IsPosition}
use Rattle.serving.specs.Refusals.{IsRefused}
use Rattle.serving.specs.Resting.{IsCheckpointed}
use Rattle.serving.specs.Staying.{WasGiven}
use Rattle.serving.specs.declared.checkpoints.TheConstants.{SLOTS_BETWEEN_CHECKPOINTS}

abbrev IsNear : ReplicaState → Type 0
IsNear m = position m < m.acceptor.floor + SLOTS_BETWEEN_CHECKPOINTS

abbrev pub IsFloor : {S : Type 0} → NodeState S → ℕ → Type 0
IsFloor n floor = MatchOption n.up (floor ≡ 0) (λ m. floor ≡ m.acceptor.floor)

near_where : (up : Option ReplicaState) (p f : ℕ) → MatchOption up (p ≡ 0) (λ m. p ≡ position m)
    → MatchOption up (f ≡ 0) (λ m. f ≡ m.acceptor.floor) → p < f + SLOTS_BETWEEN_CHECKPOINTS → IfSome up IsNear
near_where None p f at floor near = tt
near_where (Some m) p f at floor near =
    let here : p ≡ position m = at in
    let there : f ≡ m.acceptor.floor = floor in
    let is : position m < m.acceptor.floor + SLOTS_BETWEEN_CHECKPOINTS = omega (arith, here, there, near) in
    is

not_due : (due : Bool) (p f : ℕ) → due ≡ false → (IsTrue due ↔ (f + SLOTS_BETWEEN_CHECKPOINTS ≤ p)) → (b : Bool)
    → nat_le (f + SLOTS_BETWEEN_CHECKPOINTS) p ≡ b → p < f + SLOTS_BETWEEN_CHECKPOINTS
not_due due p f is iff true le =
    let yes_due : IsTrue due = iff.1 (leb-true (f + SLOTS_BETWEEN_CHECKPOINTS) p le) in
    absurd (cc)
not_due due p f is iff false gt = leb-false (f + SLOTS_BETWEEN_CHECKPOINTS) p gt

-- one is due
due_where : (up : Option ReplicaState) (p f : ℕ) → MatchOption up (p ≡ 0) (λ m. p ≡ position m)
    → MatchOption up (f ≡ 0) (λ m. f ≡ m.acceptor.floor) → f + SLOTS_BETWEEN_CHECKPOINTS ≤ p → IfSome up IsNear → ⊥
due_where None p f at floor due near = absurd (omega (arith, at, floor, due))
due_where (Some m) p f at floor due near =
    let here : p ≡ position m = at in
    let there : f ≡ m.acceptor.floor = floor in
    let is : position m < m.acceptor.floor + SLOTS_BETWEEN_CHECKPOINTS = near in
    absurd (omega (arith, here, there, due, is))

pub not_checkpointed : {S : Type 0} (n : NodeState S) (p f : ℕ) → IsPosition n p → IsFloor n f → f + SLOTS_BETWEEN_CHECKPOINTS ≤ p
    → ¬ IsCheckpointed n
not_checkpointed n p f at floor due = λ h. due_where n.up p f at floor due h.near

module _ {S : Type 0} (storages : Ghosts S) where
  -- none is due already
  pub checkpointed_already : (n : NodeState S) (due : Bool) (p f : ℕ) → IsPosition n p → IsFloor n f → due ≡ false
      → (IsTrue due ↔ (f + SLOTS_BETWEEN_CHECKPOINTS ≤ p)) → IsCheckpointed n
  checkpointed_already n due p f at floor is iff = record {
    near = near_where n.up p f at floor (not_due due p f is iff (nat_le (f + SLOTS_BETWEEN_CHECKPOINTS) p) refl);
  }

  -- ---- the node was given an input
  -- one that is down isn't
  not_down : (old new : NodeState S) (given : Input) (result : Result Response NodeFault) → NodeSteps storages old given result new
      → ((fault : NodeFault) → result ≡ Err fault → IsRefused fault) → old.up ≡ None → ⊥
  not_down old new given result steps goes_on down =
      let apart = (goes_on node_fault.Down (steps.down down).0).1 in
      apart refl

  refused_so : (old new : NodeState S) (m : ReplicaState) (given : Input) (fault : NodeFault) (stops : Bool) → stops ≡ false
      → MatchBool stops (StopsOnInput storages old m given fault new) (RefusesInput old m given fault new)
      → RefusesInput old m given fault new
  refused_so old new m given fault true is h = absurd (cc)
  refused_so old new m given fault false is h = h

  -- what an input that the node took, or refused, makes of its checkpoint
  near_after : (old new : NodeState S) (given : Input) (m : ReplicaState) → old.up ≡ Some m
      → ((said : Response) → TakesInput storages old m given said new → IfSome new.up IsNear)
      → ((fault : NodeFault) → RefusesInput old m given fault new → IfSome new.up IsNear)
      → (result : Result Response NodeFault) → NodeSteps storages old given result new
      → ((fault : NodeFault) → result ≡ Err fault → IsRefused fault) → IfSome new.up IsNear
  near_after old new given m up taken refused (Ok said) steps goes_on =
      taken said
      (subst (λ (o : Option ReplicaState). IfSome o (λ k. TakesInput storages old k given said new)) up steps.taken)
  near_after old new given m up taken refused (Err fault) steps goes_on =
      let found : MatchBool (is_stop_fault fault) (StopsOnInput storages old m given fault new) (RefusesInput old m given fault new) =
      subst (λ (o : Option ReplicaState). IfSome o (λ k. MatchBool (is_stop_fault fault) (StopsOnInput storages old k given fault new)
      (RefusesInput old k given fault new))) up steps.refused in
      refused fault (refused_so old new m given fault (is_stop_fault fault) (goes_on fault refl).0 found)

  -- ---- a checkpoint that is due
  checkpoint_taken : (old new : NodeState S) (m : ReplicaState) (said : Response) → TakesInput storages old m input.Checkpoint said new
      → IfSome new.up IsNear
  checkpoint_taken old new m said takes =
      let near : position m < position m + SLOTS_BETWEEN_CHECKPOINTS = omega arith in
      subst (λ (n : NodeState S). IfSome n.up IsNear) (sym takes.leaves) (subst IsNear (sym takes.takes.0) near)

  never_refused : (m : ReplicaState) (fault : NodeFault) → m.acceptor.floor + SLOTS_BETWEEN_CHECKPOINTS ≤ position m
      → refuses m input.Checkpoint ≡ Some fault → ⊥
  never_refused m fault due =
      cond_both (nat_le (position m) m.acceptor.floor) (Some node_fault.NothingNew) None (λ o. o ≡ Some fault → ⊥)
      (λ le is. let below = leb-true (position m) m.acceptor.floor le in absurd (omega (arith, below, due)))
      (λ gt is. absurd (cc))

  checkpointed_where : (old new : LifeState S) (p f : ℕ) → WasGiven storages old input.Checkpoint new → f + SLOTS_BETWEEN_CHECKPOINTS ≤ p
      → (up : Option ReplicaState) → old.node.up ≡ up → MatchOption up (p ≡ 0) (λ m. p ≡ position m)
      → MatchOption up (f ≡ 0) (λ m. f ≡ m.acceptor.floor) → IfSome new.node.up IsNear
  checkpointed_where old new p f given due None up at floor =
      absurd (not_down old.node new.node input.Checkpoint given.result given.takes.happens.0 given.goes_on up)
  checkpointed_where old new p f given due (Some m) up at floor =
      let here : p ≡ position m = at in
      let there : f ≡ m.acceptor.floor = floor in
      let is : m.acceptor.floor + SLOTS_BETWEEN_CHECKPOINTS ≤ position m = omega (arith, due, here, there) in
      near_after old.node new.node input.Checkpoint m up (checkpoint_taken old.node new.node m)
      (λ fault refuses_. absurd (never_refused m fault is refuses_.refused)) given.result given.takes.happens.0 given.goes_on

  pub checkpointed_now : (old new : LifeState S) (p f : ℕ) → WasGiven storages old input.Checkpoint new → IsPosition old.node p
      → IsFloor old.node f → f + SLOTS_BETWEEN_CHECKPOINTS ≤ p → IsCheckpointed new.node
  checkpointed_now old new p f given at floor due =
      record { near = checkpointed_where old new p f given due old.node.up refl at floor }

  -- ---- a trim leaves the floor
  trimmed_where : (old new : LifeState S) → WasGiven storages old input.Trim new → (up : Option ReplicaState) → old.node.up ≡ up
      → IfSome up IsNear → IfSome new.node.up IsNear
  trimmed_where old new given None up near =
      absurd (not_down old.node new.node input.Trim given.result given.takes.happens.0 given.goes_on up)
  trimmed_where old new given (Some m) up near =
      near_after old.node new.node input.Trim m up
      (λ said takes. subst (λ (n : NodeState S). IfSome n.up IsNear) (sym takes.leaves) (subst IsNear (sym takes.takes.0) near))
      (λ fault refuses_. subst (λ (n : NodeState S). IfSome n.up IsNear) (sym refuses_.leaves)
      (subst (λ (o : Option ReplicaState). IfSome o IsNear) (sym up) near)) given.result given.takes.happens.0 given.goes_on

  pub checkpointed_still : (old new : LifeState S) → WasGiven storages old input.Trim new → IsCheckpointed old.node
      → IsCheckpointed new.node
  checkpointed_still old new given h = record { near = trimmed_where old new given old.node.up refl h.near }

  -- ---- neither says anything, and so the same frames to itself wait
  quiet_where : (old new : NodeState S) (given : Input) (said : Response)
      → ((m n : ReplicaState) → Takes m given n said → said ≡ silence) → NodeSteps storages old given (Ok said) new
      → (up : Option ReplicaState) → old.up ≡ up → IfSome up (λ m. TakesInput storages old m given said new) → said ≡ silence
  quiet_where old new given said silent steps None is h = absurd (let down = (steps.down is).0 in cc)
  quiet_where old new given said silent steps (Some m) is h = silent m h.replica h.takes

  own_where : (old new : LifeState S) (given : Input) → ((said : Response) (m n : ReplicaState) → Takes m given n said → said ≡ silence)
      → (result : Result Response NodeFault) → GoesOn storages old (Took given result) new → new.own ≡ old.own
  own_where old new given silent (Ok said) goes_on =
      let quiet = quiet_where old.node new.node given said (silent said) goes_on.happens.0 old.node.up refl goes_on.happens.0.taken in
      goes_on.own ∙ ap (λ (r : Response). old.own ++ to_itself old.id r.sends) quiet ∙ append-nil old.own
  own_where old new given silent (Err fault) goes_on = goes_on.own ∙ append-nil old.own

  pub checkpoint_keeps_own : (old new : LifeState S) → WasGiven storages old input.Checkpoint new → new.own ≡ old.own
  checkpoint_keeps_own old new given = own_where old new input.Checkpoint (λ said m n takes. takes.1) given.result given.takes

  pub trim_keeps_own : (old new : LifeState S) → WasGiven storages old input.Trim new → new.own ≡ old.own
  trim_keeps_own old new given = own_where old new input.Trim (λ said m n takes. takes.1) given.result given.takes
