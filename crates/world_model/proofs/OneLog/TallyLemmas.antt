-- Every step keeps the lists as long as the outcomes say.
use Rattle.std.proofs.Common.{◌≡◌, ℕ, List, [], ◌∷◌, ◌++◌, length, sum_by, Option, Some, None, IfSome, Result, Ok, Err, IfOk}
use Rattle.std.proofs.Common.{refl, sym, ap, ◌∙◌, subst, arith}
use Rattle.std.proofs.lemmas.List.{length-append, length-map}
use Rattle.std.proofs.lemmas.List.Sums.{sum_by-append}
use Rattle.stable.specs.Script.{Script}
use Rattle.stable.specs.declared.stable.Stable.{Ghosts}
use Rattle.store.specs.declared.query.Query.{Query}
use Rattle.world_model.specs.declared.lists.StepOutcome.{StepOutcome}
use Rattle.world_model.specs.declared.lists.StepOutcome.TheVariants.{Answered}
use Rattle.world_model.specs.Flushing.{IsStart}
use Rattle.node_model.specs.declared.fault.NodeFault.{NodeFault}
use Rattle.node_model.specs.declared.fault.NodeFault.TheVariants as fault
use Rattle.node_model.specs.declared.input.Input.{Input}
use Rattle.node_model.specs.declared.outputs.LearntCommand.{LearntCommand}
use Rattle.node_model.specs.Replicas.{ReplicaState}
use Rattle.node_model.specs.Nodes.{NodeState, NodeSteps, TakesInput}
use Rattle.node_model.specs.Outputs.{Response}
use Rattle.node_model.proofs.Learnt.{takes_restored}
use Rattle.world_model.specs.Tallies.{learnt_told, replies_told, answers_told, IsTallied, StepsTally}
use Rattle.world_model.specs.Worlds.{WorldState, with_node, with_response, with_outcome, with_answer, without_wait, learnt_by, came_of}
use Rattle.world_model.specs.Outputs.{replied_at, replied_by}
use Rattle.world_model.proofs.Steps.Preserved.{Preserved, step_keeps}

-- entries join a list, and an outcome tells of as many
grows : {A : Type 0} (xs ys : List A) (f : StepOutcome → ℕ) (os : List StepOutcome) (o : StepOutcome) → length xs ≡ sum_by f os
    → length ys ≡ f o → length (xs ++ ys) ≡ sum_by f (os ++ o ∷ [])
grows xs ys f os o e g = omega (arith, length-append xs ys, sum_by-append f os (o ∷ []), e, g)

-- an outcome tells of none
stays : {A : Type 0} (xs : List A) (f : StepOutcome → ℕ) (os : List StepOutcome) (o : StepOutcome) → length xs ≡ sum_by f os
    → 0 ≡ f o → length xs ≡ sum_by f (os ++ o ∷ [])
stays xs f os o e g = omega (arith, sum_by-append f os (o ∷ []), e, g)

-- what came of a step tells of what was learnt, where none is with a text that is restored, and of the replies
came_learnt : (node : ℕ) (o : Option ℕ) (learnt replies : ℕ) → ((target : ℕ) → o ≡ Some target → learnt ≡ 0)
    → learnt ≡ learnt_told (came_of node o learnt replies)
came_learnt node None learnt replies none = refl
came_learnt node (Some target) learnt replies none = none target refl

came_replies : (node : ℕ) (o : Option ℕ) (learnt replies : ℕ) → replies ≡ replies_told (came_of node o learnt replies)
came_replies node None learnt replies = refl
came_replies node (Some target) learnt replies = refl

came_answers : (node : ℕ) (o : Option ℕ) (learnt replies : ℕ) → 0 ≡ answers_told (came_of node o learnt replies)
came_answers node None learnt replies = refl
came_answers node (Some target) learnt replies = refl

module _ {S : Type 0} where
  -- an outcome that tells of no entry
  with_quiet : (w : WorldState S) (o : StepOutcome) → 0 ≡ learnt_told o → 0 ≡ replies_told o → 0 ≡ answers_told o
      → IsTallied w → IsTallied (with_outcome w o)
  with_quiet w o l r a t = record {
    learnt = stays w.learnt learnt_told w.outcomes o t.learnt l;
    replies = stays w.replies replies_told w.outcomes o t.replies r;
    answers = stays w.answers answers_told w.outcomes o t.answers a;
  }

  said_tallied : (w : WorldState S) (node : ℕ) (said : Response) → ((target : ℕ) → said.restored ≡ Some target → said.learnt ≡ None)
      → IsTallied w → IsTallied (with_response w node said)
  said_tallied w node said restoring t =
      let learnt : ℕ = length (learnt_by node said.learnt) in
      let o : StepOutcome = came_of node said.restored learnt (length said.replies) in
      let none : (target : ℕ) → said.restored ≡ Some target → length (learnt_by node said.learnt) ≡ 0 = λ target is.
      ap (λ (e : Option LearntCommand). length (learnt_by node e)) (restoring target is) in
      record {
        learnt = grows w.learnt (learnt_by node said.learnt) learnt_told w.outcomes o t.learnt
            (came_learnt node said.restored learnt (length said.replies) none);
        replies = grows w.replies (replied_by node said.replies) replies_told w.outcomes o t.replies
            (length-map said.replies (replied_at node) ∙ came_replies node said.restored learnt (length said.replies));
        answers = stays w.answers answers_told w.outcomes o t.answers
            (came_answers node said.restored learnt (length said.replies));
      }

  -- with a text that it restores a node learns nothing
  node_restoring : {storages : Ghosts (Script S)} (old new : NodeState (Script S)) (i : Input) (r : Result Response NodeFault)
      (said : Response) (o : Option ReplicaState) → r ≡ Ok said → old.up ≡ o → NodeSteps storages old i r new
      → (target : ℕ) → said.restored ≡ Some target → said.learnt ≡ None
  node_restoring old new i r said None is up h target some =
      absurd (let e : ◌≡◌ {A = Result Response NodeFault} (Ok said) (Err fault.Down) = sym is ∙ (h.down up).0 in cc)
  node_restoring {storages} old new i r said (Some m) is up h target some =
      let takes : IfOk r (λ s. TakesInput storages old m i s new) =
      subst (λ (o : Option ReplicaState). IfSome o (λ n. IfOk r (λ s. TakesInput storages old n i s new))) up h.taken in
      let t : TakesInput storages old m i said new =
      subst (λ (q : Result Response NodeFault). IfOk q (λ s. TakesInput storages old m i s new)) is takes in
      takes_restored m t.replica said i t.takes target some

  answered_tallied : (w : WorldState S) (node : ℕ) (query : Query) (told : ℕ × List ℕ) → IsTallied w
      → IsTallied (with_answer w node query told.0 told.1)
  answered_tallied w node query told t = record {
    learnt = stays w.learnt learnt_told w.outcomes Answered t.learnt refl;
    replies = stays w.replies replies_told w.outcomes Answered t.replies refl;
    answers = grows w.answers _ answers_told w.outcomes Answered t.answers refl;
  }

  -- other lists change, and none that is counted
  same_lists : (v w : WorldState S) → v.learnt ≡ w.learnt → v.replies ≡ w.replies → v.answers ≡ w.answers → v.outcomes ≡ w.outcomes
      → IsTallied w → IsTallied v
  same_lists v w l r a o t = record {
    learnt = omega (arith, ap length l, ap (sum_by learnt_told) o, t.learnt);
    replies = omega (arith, ap length r, ap (sum_by replies_told) o, t.replies);
    answers = omega (arith, ap length a, ap (sum_by answers_told) o, t.answers);
  }

  tally_kept : (storages : Ghosts (Script S)) → Preserved storages (λ w. IsTallied w)
  tally_kept storages = record {
    takes = λ w node i taken v h said is fits t.
        said_tallied (with_node w node h.after) node said
        (node_restoring h.before h.after i h.result said h.before.up is refl h.steps)
        (same_lists (with_node w node h.after) w refl refl refl refl t);
    fails = λ w node i taken v h f is t. same_lists (with_node w node h.after) w refl refl refl refl t;
    submits = λ w s sound t. same_lists (record w { submitted = w.submitted ++ s ∷ [] }) w refl refl refl refl t;
    unwaits = λ w k t. same_lists (without_wait w k) w refl refl refl refl t;
    says = λ w o brings t. with_quiet w o brings.learnt brings.replies brings.answers t;
    restarts = λ w node v h t. same_lists (with_node w node h.after) w refl refl refl refl t;
    arms = λ w node failing n here t. same_lists (with_node w node _) w refl refl refl refl t;
    answers = λ w node query v h told is t. answered_tallied w node query told t;
  }

-- every list is empty at the start
start_tallied : {S : Type 0} (storages : Ghosts (Script S)) (count : ℕ) (w : WorldState S) → IsStart storages count w → IsTallied w
start_tallied storages count w h =
    subst (λ (x : WorldState _). IsTallied x) (sym h.nothing) (record { learnt = refl; replies = refl; answers = refl })

pub steps_tally : {S : Type 0} (storages : Ghosts (Script S))
    → StepsTally storages
steps_tally storages = record {
  start = start_tallied storages;
  step = λ old e new h t. step_keeps (tally_kept storages) old e new h t;
}
