-- A node that took its input, or refused it and is still up, is up.
use Rattle.std.proofs.Common.{◌≡◌, Bool, true, false, Option, Some, None, IfSome, IsSome, MatchBool, Result, Ok, Err, refl, sym, subst, OnOk}
use Rattle.stable.specs.declared.stable.Stable.{Ghosts}
use Rattle.node_model.specs.Faults.{is_stop_fault}
use Rattle.node_model.specs.Nodes.{NodeState, RefusesInput, StopsOnInput, TakesInput}
use Rattle.node_model.specs.Outputs.{Response}
use Rattle.node_model.specs.Replicas.{ReplicaState}
use Rattle.node_model.specs.declared.fault.NodeFault.{NodeFault}
use Rattle.node_model.specs.declared.input.Input.{Input}
use Rattle.world_model.specs.Lives.{Happens, Took}
use Rattle.serving.specs.Staying.{StaysUp}

module _ {S : Type 0} (storages : Ghosts S) where
  up_where_taken : (old new : NodeState S) (given : Input) (said : Response) (up : Option ReplicaState)
      → IfSome up (λ m. TakesInput storages old m given said new) → IsSome up → IsSome new.up
  up_where_taken old new given said (Some m) h is = subst (λ (n : NodeState S). IsSome n.up) (sym h.leaves) refl
  up_where_taken old new given said None h is = absurd (cc)

  refuses_where_up : (old new : NodeState S) (m : ReplicaState) (given : Input) (fault : NodeFault) (stops : Bool) → stops ≡ false
      → MatchBool stops (StopsOnInput storages old m given fault new) (RefusesInput old m given fault new) → new ≡ old
  refuses_where_up old new m given fault true is h = absurd (cc)
  refuses_where_up old new m given fault false is h = h.leaves

  up_where_refused : (old new : NodeState S) (given : Input) (fault : NodeFault) → is_stop_fault fault ≡ false
      → (up : Option ReplicaState) → old.up ≡ up
      → IfSome up (λ m. MatchBool (is_stop_fault fault) (StopsOnInput storages old m given fault new)
      (RefusesInput old m given fault new)) → IsSome up → IsSome new.up
  up_where_refused old new given fault goes_on (Some m) is h some =
      subst (λ (n : NodeState S). IsSome n.up) (sym (refuses_where_up old new m given fault (is_stop_fault fault) goes_on h))
      (subst (λ (o : Option ReplicaState). IsSome o) (sym is) refl)
  up_where_refused old new given fault goes_on None is h some = absurd (cc)

  pub stays_said : (old new : NodeState S) (given : Input) (said : Response) → Happens storages old (Took given (Ok said)) new
      → StaysUp old new
  stays_said old new given said h = record { stays = up_where_taken old new given said old.up h.0.taken }

  pub stays_refused : (old new : NodeState S) (given : Input) (fault : NodeFault) → is_stop_fault fault ≡ false
      → Happens storages old (Took given (Err fault)) new → StaysUp old new
  stays_refused old new given fault goes_on h =
      record { stays = up_where_refused old new given fault goes_on old.up refl h.0.refused }

  -- ---- one after the other
  pub stays_itself : (n : NodeState S) → StaysUp n n
  stays_itself n = record { stays = λ is. is }

  pub stays_same : (old new : NodeState S) → new ≡ old → StaysUp old new
  stays_same old new same = record { stays = λ is. subst (λ (n : NodeState S). IsSome n.up) (sym same) is }

  pub stays_then : (a b c : NodeState S) → StaysUp a b → StaysUp b c → StaysUp a c
  stays_then a b c h k = record { stays = λ is. k.stays (h.stays is) }

-- of any result
pub stays_on : {A E P : Type 0} (result : Result A E) → P → OnOk result P
stays_on (Ok done) h = h
stays_on (Err fault) h = tt
