-- Whatever was learnt was learnt at a slot of the log.
use Rattle.std.proofs.Common.{◌≡◌, ◌<◌, ℕ, inl, inr, List, [], ◌++◌, Option, Some, None, IfSome, IfOk, Contains}
use Rattle.std.proofs.Common.{Result, Ok, Err, refl, sym, ◌∙◌, subst}
use Rattle.std.proofs.lemmas.List.Elements.{Contains-append_cases, Contains-push_cases}
use Rattle.stable.specs.Script.{Script}
use Rattle.stable.specs.declared.stable.Stable.{Ghosts}
use Rattle.synod.specs.declared.slot.TheConstants.{SLOTS}
use Rattle.synod.proofs.Thinking.{none_in}
use Rattle.node_model.specs.declared.fault.NodeFault.{NodeFault}
use Rattle.node_model.specs.declared.fault.NodeFault.TheVariants as fault
use Rattle.node_model.specs.declared.input.Input.{Input}
use Rattle.node_model.specs.declared.outputs.LearntCommand.{LearntCommand}
use Rattle.node_model.specs.Replicas.{ReplicaState}
use Rattle.node_model.specs.Nodes.{NodeState, NodeSteps, TakesInput}
use Rattle.node_model.specs.Outputs.{Response}
use Rattle.node_model.specs.Protocol.{InputFits}
use Rattle.node_model.proofs.LearntSlots.{taken_in_log}
use Rattle.events.specs.declared.event.Event.{Event}
use Rattle.world_model.specs.declared.lists.LearntEntry.{LearntEntry}
use Rattle.world_model.specs.Explaining.{LearntInLog}
use Rattle.world_model.specs.Worlds.{WorldState, Steps, learnt_by}
use Rattle.world_model.proofs.Steps.Preserved.{Preserved, step_keeps}

-- what a node says that it newly learnt is at a slot of the log
abbrev SaysInLog : Response → Type 0
SaysInLog said = (e : LearntCommand) → said.learnt ≡ Some e → e.slot < SLOTS

learnt_more : (learnt : List LearntEntry) (node : ℕ) (o : Option LearntCommand) → ((e : LearntCommand) → o ≡ Some e → e.slot < SLOTS) → LearntInLog learnt
    → LearntInLog (learnt ++ learnt_by node o)
learnt_more learnt node None within log t c = elim (Contains-append_cases learnt [] t c) [
  | inl before ↦ log t before
  | inr none ↦ absurd (none_in t none)
]
learnt_more learnt node (Some e) within log t c =
    elim (Contains-push_cases learnt (record { node = node; slot = e.slot; command = e.command }) t c) [
      | inl before ↦ log t before
      | inr same ↦ subst (λ (x : LearntEntry). x.slot < SLOTS) same (within e refl)
    ]

-- nothing is learnt yet
pub start_in_log : (learnt : List LearntEntry) → learnt ≡ [] → LearntInLog learnt
start_in_log learnt none t c = absurd (none_in t (subst (λ (l : List LearntEntry). Contains l t) none c))

module _ {S : Type 0} (storages : Ghosts (Script S)) where
  -- a node takes an input
  node_in_log : (old new : NodeState (Script S)) (i : Input) (r : Result Response NodeFault) (said : Response) (o : Option ReplicaState)
      → r ≡ Ok said → old.up ≡ o → NodeSteps storages old i r new → InputFits i → SaysInLog said
  node_in_log old new i r said None is up h fits =
      absurd (let e : ◌≡◌ {A = Result Response NodeFault} (Ok said) (Err fault.Down) = sym is ∙ (h.down up).0 in cc)
  node_in_log old new i r said (Some m) is up h fits =
      let takes : IfOk r (λ s. TakesInput storages old m i s new) =
      subst (λ (o : Option ReplicaState). IfSome o (λ n. IfOk r (λ s. TakesInput storages old n i s new))) up h.taken in
      let t : TakesInput storages old m i said new =
      subst (λ (q : Result Response NodeFault). IfOk q (λ s. TakesInput storages old m i s new)) is takes in
      taken_in_log m t.replica said i fits t.takes

  -- only what a node says is learnt
  log_kept : Preserved storages (λ w. LearntInLog w.learnt)
  log_kept = record {
    takes = λ w node i taken v h said is fits log.
        learnt_more w.learnt node said.learnt (node_in_log h.before h.after i h.result said h.before.up is refl h.steps fits) log;
    fails = λ w node i taken v h f is log. log;
    submits = λ w s sound log. log;
    unwaits = λ w k log. log;
    says = λ w o brings log. log;
    restarts = λ w node v h log. log;
    arms = λ w node failing n here log. log;
    answers = λ w node query v h told is log. log;
  }

  pub step_in_log : (old : WorldState S) (e : Event) (new : WorldState S) → Steps storages old e new
      → LearntInLog old.learnt → LearntInLog new.learnt
  step_in_log old e new h log = step_keeps log_kept old e new h log
