-- What came of a request that was refused, and of a query.
use Rattle.std.proofs.Common.{◌≡◌, ℕ, ◌-◌, Option, List, [], ◌∷◌, ◌++◌, length, slice_get, Some, None, Result, Ok, Err, ap, subst, ◌∙◌, arith, Bool, true, false, MatchBool, IfSome, refl}
use Rattle.std.proofs.lemmas.List.{length_push}
use Rattle.sessions.proofs.Longer.{get-push_last}
use Rattle.sessions.specs.declared.submission.Submission.{Submission}
use Rattle.store.specs.declared.query.Query.{Query}
use Rattle.stable.specs.declared.stable.Stable.{Ghosts}
use Rattle.node_model.specs.Faults.{is_stop_fault}
use Rattle.node_model.specs.Nodes.{NodeState, NodeSteps, RefusesInput, StopsOnInput}
use Rattle.node_model.specs.Replicas.{ReplicaState, refuses}
use Rattle.node_model.specs.declared.input.Input.{Input}
use Rattle.node_model.specs.declared.fault.NodeFault.{NodeFault}
use Rattle.node_model.specs.declared.input.Input.TheVariants as input
use Rattle.world_model.specs.declared.lists.Answered.{Answered}
use Rattle.world_model.specs.Lives.{Asked, Took}
use Rattle.life.specs.Lives.{Does, LifeState}
use Rattle.life.specs.declared.fault.LifeFault.{LifeFault}
use Rattle.serving.specs.Knowing.{Refuses}
use Rattle.serving.specs.Refusals.{IsRefusal, IsRefused}

module _ {S : Type 0} (storages : Ghosts S) where
  -- a node that refused a request was one that refuses it
  fault_found : (old new : NodeState S) (m : ReplicaState) (given : Input) (fault : NodeFault) (stops : Bool) → stops ≡ false
      → MatchBool stops (StopsOnInput storages old m given fault new) (RefusesInput old m given fault new)
      → refuses m given ≡ Some fault
  fault_found old new m given fault true is h = absurd (cc)
  fault_found old new m given fault false is h = h.refused

  found_where_up : (old new : NodeState S) (submission : Submission) (fault : NodeFault)
      → NodeSteps storages old (input.Submit submission.client submission.number submission.op) (Err fault) new → IsRefused fault
      → (up : Option ReplicaState) → old.up ≡ up → Refuses old submission fault
  found_where_up old new submission fault steps refused (Some m) is =
      let given = input.Submit submission.client submission.number submission.op in
      let found : MatchBool (is_stop_fault fault) (StopsOnInput storages old m given fault new) (RefusesInput old m given fault new) =
      subst (λ (o : Option ReplicaState). IfSome o (λ k. MatchBool (is_stop_fault fault) (StopsOnInput storages old k given fault new)
      (RefusesInput old k given fault new))) is steps.refused in
      record { replica = m; up = is; refused = fault_found old new m given fault (is_stop_fault fault) refused.0 found }
  found_where_up old new submission fault steps refused None is =
      let down = (steps.down is).0 in
      let apart = refused.1 in
      absurd (apart cc)

  pub refuses_so : (old new : LifeState S) (submission : Submission) (fault : NodeFault) (result : Result (Unit {0}) LifeFault)
      → Does storages old (Took (input.Submit submission.client submission.number submission.op)) result new
      → IsRefusal result (Ok (Some fault)) → Refuses old.node submission fault
  refuses_so old new submission fault result does refusal =
      let Did : Result (Unit {0}) LifeFault → Type 0 =
      λ r. Does storages old (Took (input.Submit submission.client submission.number submission.op)) r new in
      let goes = subst Did refusal.0 does in
      found_where_up old.node new.node submission fault goes.happens.0 refusal.1 old.node.up refl

  -- a query that a node answered has its answer among those that are held
  pub asked_is_last : (old new : LifeState S) (query : Query) (result : Result (Unit {0}) LifeFault) (answers : List Answered)
      → Does storages old (Asked query) result new → IsRefusal result (Ok None) → answers ≡ new.held.answers
      → slice_get answers (length answers - 1) ≡ None → ⊥
  asked_is_last old new query (Ok done) answers does refusal listed last =
      let told = does.0 in
      let mine : Answered = record { node = old.id; position = told.0; query = query; text = told.1 } in
      let held : answers ≡ old.held.answers ++ mine ∷ [] = listed ∙ ap (λ t. t.answers) does.1.held in
      let front = old.held.answers in
      let here : slice_get (front ++ mine ∷ []) (length (front ++ mine ∷ []) - 1) ≡ None =
      subst (λ (xs : List Answered). slice_get xs (length xs - 1) ≡ None) held last in
      let place : length (front ++ mine ∷ []) - 1 ≡ length front = omega (arith, length_push front mine) in
      let there : slice_get (front ++ mine ∷ []) (length front) ≡ None =
      subst (λ (n : ℕ). slice_get (front ++ mine ∷ []) n ≡ None) place here in
      let pushed_one = get-push_last front mine in
      absurd (cc)
  asked_is_last old new query (Err fault) answers does refusal listed last = absurd (cc)
