-- A process that ends: with the fault that its node had last, or for want of memory.
use Rattle.std.proofs.Common.{◌≡◌, ◌≢◌, Bool, true, false, if◌then◌else◌, Option, Some, None, IfSome, MatchBool, Result, Ok, Err, inl, inr, refl, sym, ap, subst, ◌∙◌}
use Rattle.store.specs.declared.query.Query.{Query}
use Rattle.stable.specs.declared.stable.Stable.{Ghosts}
use Rattle.node_model.specs.Faults.{is_stop_fault}
use Rattle.node_model.specs.Nodes.{NodeAnswers, NodeState, NodeSteps, RefusesInput, StopsOnInput, StorageStops}
use Rattle.node_model.specs.Replicas.{ReplicaState, refuses}
use Rattle.node_model.specs.declared.fault.NodeFault.{NodeFault}
use Rattle.node_model.specs.declared.fault.NodeFault.TheVariants as node_fault
use Rattle.node_model.specs.declared.input.Input.{Input}
use Rattle.node_model.specs.declared.input.Input.TheVariants as input
use Rattle.node_model.specs.Outputs.{Response}
use Rattle.world_model.specs.Lives.{Asked, Happening, Happens, Took}
use Rattle.life.specs.Lives.{Does, LifeState, TakesBack}
use Rattle.life.specs.declared.fault.LifeFault.{LifeFault}
use Rattle.life.specs.declared.fault.LifeFault.TheVariants as life_fault
use Rattle.serving.specs.Ending.{EndsAt, HasEnded, IsAsked, IsCause, IsOfOthers, fault_in}
use Rattle.serving.specs.Ending.EndsAt.{at_it, before, behind}
use Rattle.serving.specs.Refusals.{IsEnd, IsRefusal, IsRefused}
use Rattle.serving.specs.Staying.{WasGiven}
use Rattle.serving.specs.declared.fault.TurnFault.{TurnFault}
use Rattle.serving.specs.declared.fault.TurnFault.TheVariants as turn_fault

-- ---- memory
pub ended_memory : {S : Type 0} (n : NodeState S) (fault : TurnFault) → fault ≡ turn_fault.Memory → HasEnded n fault
ended_memory n fault is = subst (λ (f : TurnFault). HasEnded n f) (sym is) tt

-- ---- no input is refused as if the node were down
abbrev IsDown : Option NodeFault → Type 0
IsDown refused = refused ≡ Some node_fault.Down

neither_down : (b : Bool) (x y : Option NodeFault) → (IsDown x → ⊥) → (IsDown y → ⊥) → IsDown (if b then x else y) → ⊥
neither_down true x y not_x not_y is = not_x is
neither_down false x y not_x not_y is = not_y is

none_down : IsDown None → ⊥
none_down is = absurd (cc)

not_full : IsDown (Some node_fault.LogFull) → ⊥
not_full is = absurd (cc)

not_long : IsDown (Some node_fault.TooLong) → ⊥
not_long is = absurd (cc)

not_queued : IsDown (Some node_fault.QueueFull) → ⊥
not_queued is = absurd (cc)

not_used_up : IsDown (Some node_fault.RoundsUsedUp) → ⊥
not_used_up is = absurd (cc)

not_new : IsDown (Some node_fault.NothingNew) → ⊥
not_new is = absurd (cc)

never_down : (m : ReplicaState) (given : Input) → IsDown (refuses m given) → ⊥
never_down m (input.Submit client number op) =
    neither_down _ _ _ not_full
    (neither_down _ _ _ not_long (neither_down _ _ _ none_down (neither_down _ _ _ not_queued none_down)))
never_down m input.Timeout = neither_down _ _ _ not_full (neither_down _ _ _ not_used_up none_down)
never_down m input.Checkpoint = neither_down _ _ _ not_new none_down
never_down m (input.Message e) = none_down
never_down m input.Tick = none_down
never_down m input.Trim = none_down

module _ {S : Type 0} (storages : Ghosts S) where
  stops_down : (old new : NodeState S) (m : ReplicaState) (given : Input) (fault : NodeFault) (stops : Bool)
      → is_stop_fault fault ≡ stops → IsEnd fault
      → MatchBool stops (StopsOnInput storages old m given fault new) (RefusesInput old m given fault new) → new.up ≡ None
  stops_down old new m given fault true is end h = ap (λ (n : NodeState S). n.up) h.leaves
  stops_down old new m given fault false is (inl stops) h = absurd (cc)
  stops_down old new m given fault false is (inr down) h =
      absurd (never_down m given (h.refused ∙ ap (λ (f : NodeFault). Some f) down))

  steps_down : (old new : NodeState S) (given : Input) (fault : NodeFault) → IsEnd fault
      → NodeSteps storages old given (Err fault) new → (up : Option ReplicaState) → old.up ≡ up → new.up ≡ None
  steps_down old new given fault end steps (Some m) is =
      let found : MatchBool (is_stop_fault fault) (StopsOnInput storages old m given fault new) (RefusesInput old m given fault new) =
      subst (λ (o : Option ReplicaState). IfSome o (λ k. MatchBool (is_stop_fault fault) (StopsOnInput storages old k given fault new)
      (RefusesInput old k given fault new))) is steps.refused in
      stops_down old new m given fault (is_stop_fault fault) refl end found
  steps_down old new given fault end steps None is = ap (λ (n : NodeState S). n.up) (steps.down is).1 ∙ is

  -- ---- why
  cause_of : (old new : S) (m : ReplicaState) (given : Input) (fault : NodeFault) → StorageStops storages old m given fault new
      → fault ≢ node_fault.Memory → IsCause fault
  cause_of old new m given node_fault.Device h other = inl refl
  cause_of old new m given node_fault.Memory h other = absurd (other refl)
  cause_of old new m given node_fault.Down h other = absurd h
  cause_of old new m given node_fault.LogFull h other = absurd h
  cause_of old new m given node_fault.RoundsUsedUp h other = absurd h
  cause_of old new m given node_fault.QueueFull h other = absurd h
  cause_of old new m given node_fault.TooLong h other = absurd h
  cause_of old new m given node_fault.NothingNew h other = absurd h
  cause_of old new m given node_fault.Damaged h other = absurd h

  cause_found : (old new : NodeState S) (m : ReplicaState) (given : Input) (fault : NodeFault) (stops : Bool)
      → is_stop_fault fault ≡ stops → IsEnd fault → fault ≢ node_fault.Memory
      → MatchBool stops (StopsOnInput storages old m given fault new) (RefusesInput old m given fault new) → IsCause fault
  cause_found old new m given fault true is end other h = cause_of old.storage new.storage m given fault h.storage other
  cause_found old new m given fault false is (inl stops) other h = absurd (cc)
  cause_found old new m given fault false is (inr down) other h = inr down

  steps_cause : (old new : NodeState S) (given : Input) (fault : NodeFault) → IsEnd fault → fault ≢ node_fault.Memory
      → NodeSteps storages old given (Err fault) new → (up : Option ReplicaState) → old.up ≡ up → IsCause fault
  steps_cause old new given fault end other steps (Some m) is =
      let found : MatchBool (is_stop_fault fault) (StopsOnInput storages old m given fault new) (RefusesInput old m given fault new) =
      subst (λ (o : Option ReplicaState). IfSome o (λ k. MatchBool (is_stop_fault fault) (StopsOnInput storages old k given fault new)
      (RefusesInput old k given fault new))) is steps.refused in
      cause_found old new m given fault (is_stop_fault fault) refl end other found
  steps_cause old new given fault end other steps None is =
      let down = (steps.down is).0 in
      inr cc

  -- ---- what it was given, or took
  input_ended : (old new : NodeState S) (given : Input) (found : NodeFault) (fault : TurnFault)
      → Happens storages old (Took given (Err found)) new → IsRefusal (Err (life_fault.Node found)) (Err fault) → HasEnded new fault
  input_ended old new given found turn_fault.Memory h refusal = tt
  input_ended old new given found (turn_fault.Node other) h refusal =
      let same : found ≡ other = let is = refusal.0 in cc in
      let end : IsEnd found = subst IsEnd (sym same) refusal.1 in (
        subst IsCause same (steps_cause old new given found end (λ is. refusal.2 (sym same ∙ is)) h.0 old.up refl),
        steps_down old new given found end h.0 old.up refl,
      )

  pub given_ended : (old new : LifeState S) (given : Input) (outcome : Result (Unit {0}) LifeFault) (fault : TurnFault)
      → Does storages old (Took given) outcome new → IsRefusal outcome (Err fault) → HasEnded new.node fault
  given_ended old new given (Ok done) turn_fault.Memory does refusal = tt
  given_ended old new given (Ok done) (turn_fault.Node found) does refusal = let is = refusal.0 in absurd (cc)
  given_ended old new given (Err life_fault.Memory) turn_fault.Memory does refusal = tt
  given_ended old new given (Err life_fault.Memory) (turn_fault.Node found) does refusal = let is = refusal.0 in absurd (cc)
  given_ended old new given (Err (life_fault.Node found)) fault does refusal =
      input_ended old.node new.node given found fault does.happens refusal

  pub back_ended : (old new : LifeState S) (found : LifeFault) (fault : TurnFault) → TakesBack storages old (Err found) new
      → IsRefusal (Err found) (Err fault) → HasEnded new.node fault
  back_ended old new life_fault.Memory turn_fault.Memory takes refusal = tt
  back_ended old new life_fault.Memory (turn_fault.Node found) takes refusal = let is = refusal.0 in absurd (cc)
  back_ended old new (life_fault.Node found) fault takes refusal =
      input_ended old.node new.node (input.Message takes.first) found fault takes.goes_on.happens refusal

  -- ---- what it was asked
  answers_down : (old : NodeState S) (query : Query) (found : NodeFault) → NodeAnswers old query (Err found)
      → found ≢ node_fault.Memory → (up : Option ReplicaState) → old.up ≡ up → old.up ≡ None
  answers_down old query found answers other None is = is
  answers_down old query found answers other (Some m) is =
      absurd (other (subst (λ (o : Option ReplicaState). IfSome o (λ k. found ≡ node_fault.Memory)) is answers.memory))

  pub asked_ended : (old new : LifeState S) (query : Query) (outcome : Result (Unit {0}) LifeFault) (fault : TurnFault)
      → Does storages old (Asked query) outcome new → IsRefusal outcome (Err fault) → HasEnded new.node fault
  asked_ended old new query outcome turn_fault.Memory does refusal = tt
  asked_ended old new query (Ok done) (turn_fault.Node found) does refusal = let is = refusal.0 in absurd (cc)
  asked_ended old new query (Err life_fault.Memory) (turn_fault.Node found) does refusal = let is = refusal.0 in absurd (cc)
  asked_ended old new query (Err (life_fault.Node found)) (turn_fault.Node other) does refusal =
      let same : found ≡ other = let is = refusal.0 in cc in
      let no_memory : found ≢ node_fault.Memory = λ is. refusal.2 (sym same ∙ is) in
      let was_down = answers_down old.node query found does.happens.0 no_memory old.node.up refl in
      let down = does.happens.0.down was_down in (
        inr cc,
        ap (λ (n : NodeState S). n.up) does.happens.2 ∙ answers_down old.node query found does.happens.0 no_memory old.node.up refl,
      )

  -- a query is refused by no node that is up
  pub asked_never_refused : (old new : LifeState S) (query : Query) (outcome : Result (Unit {0}) LifeFault) (fault : NodeFault)
      → Does storages old (Asked query) outcome new → IsRefusal outcome (Ok (Some fault)) → ⊥
  asked_never_refused old new query (Ok done) fault does refusal = let is = refusal.0 in absurd (cc)
  asked_never_refused old new query (Err life_fault.Memory) fault does refusal = let is = refusal.0 in absurd (cc)
  asked_never_refused old new query (Err (life_fault.Node found)) fault does refusal =
      let same : found ≡ fault = let is = refusal.0 in cc in
      by_up old.node query found does.happens.0 (subst (λ f. is_stop_fault f ≡ false) (sym same) refusal.1.0)
      (λ down. refusal.1.1 (sym same ∙ down)) old.node.up refl
    where
      by_up : (old : NodeState S) (query : Query) (found : NodeFault) → NodeAnswers old query (Err found)
          → is_stop_fault found ≡ false → found ≢ node_fault.Down → (up : Option ReplicaState) → old.up ≡ up → ⊥
      by_up old query found answers goes_on up_still None is =
          let down = answers.down is in
          up_still cc
      by_up old query found answers goes_on up_still (Some m) is =
          let memory : found ≡ node_fault.Memory =
          subst (λ (o : Option ReplicaState). IfSome o (λ k. found ≡ node_fault.Memory)) is answers.memory in
          let stops : is_stop_fault found ≡ true = ap is_stop_fault memory in
          absurd (cc)

  -- ---- what happened to its node last
  -- nothing did
  pub ends_before : (IsSuch : Happening → Type 0) (old new : NodeState S) (fault : TurnFault) → fault ≡ turn_fault.Memory → new ≡ old
      → EndsAt storages IsSuch old fault new
  ends_before IsSuch old new fault is same = subst (λ (f : TurnFault). EndsAt storages IsSuch old f new) (sym is) (before new same)

  refused_at_most : (given : Input) (result : Result Response NodeFault) → ((fault : NodeFault) → result ≡ Err fault → IsRefused fault)
      → IfSome (fault_in (Took given result)) IsRefused
  refused_at_most given (Ok said) h = tt
  refused_at_most given (Err fault) h = h fault refl

  -- it was given this, and goes on
  pub ends_behind : (IsSuch : Happening → Type 0) (old new : LifeState S) (given : Input) (fault : TurnFault) → fault ≡ turn_fault.Memory
      → ((result : Result Response NodeFault) → IsSuch (Took given result)) → WasGiven storages old given new
      → EndsAt storages IsSuch old.node fault new.node
  ends_behind IsSuch old new given fault is such h =
      subst (λ (f : TurnFault). EndsAt storages IsSuch old.node f new.node) (sym is)
      (behind (Took given h.result) new.node (such h.result) h.takes.happens (refused_at_most given h.result h.goes_on))

  -- it ends the process
  at_input : (IsSuch : Happening → Type 0) (old new : NodeState S) (given : Input) (found : NodeFault) (fault : TurnFault)
      → IsSuch (Took given (Err found)) → Happens storages old (Took given (Err found)) new
      → IsRefusal (Err (life_fault.Node found)) (Err fault) → EndsAt storages IsSuch old fault new
  at_input IsSuch old new given found turn_fault.Memory such h (inl is) = absurd (cc)
  at_input IsSuch old new given found turn_fault.Memory such h (inr is) =
      let same : found ≡ node_fault.Memory = cc in
      at_it (Took given (Err found)) found turn_fault.Memory new such h refl same
  at_input IsSuch old new given found (turn_fault.Node other) such h refusal =
      let same : found ≡ other = let is = refusal.0 in cc in
      let ended = input_ended old new given found (turn_fault.Node other) h refusal in
      at_it (Took given (Err found)) found (turn_fault.Node other) new such h refl (same, ended.0)

  pub ends_took : (IsSuch : Happening → Type 0) (old new : LifeState S) (given : Input) (outcome : Result (Unit {0}) LifeFault)
      (fault : TurnFault) → ((result : Result Response NodeFault) → IsSuch (Took given result)) → Does storages old (Took given) outcome new
      → IsRefusal outcome (Err fault) → EndsAt storages IsSuch old.node fault new.node
  ends_took IsSuch old new given (Ok done) turn_fault.Memory such does (inl is) = absurd (cc)
  ends_took IsSuch old new given (Ok done) turn_fault.Memory such does (inr is) = absurd (cc)
  ends_took IsSuch old new given (Ok done) (turn_fault.Node found) such does refusal = let is = refusal.0 in absurd (cc)
  ends_took IsSuch old new given (Err life_fault.Memory) turn_fault.Memory such does refusal =
      before new.node (ap (λ (l : LifeState S). l.node) does)
  ends_took IsSuch old new given (Err life_fault.Memory) (turn_fault.Node found) such does refusal = let is = refusal.0 in absurd (cc)
  ends_took IsSuch old new given (Err (life_fault.Node found)) fault such does refusal =
      at_input IsSuch old.node new.node given found fault (such (Err found)) does.happens refusal

  pub ends_back : (old new : LifeState S) (found : LifeFault) (fault : TurnFault) → TakesBack storages old (Err found) new
      → IsRefusal (Err found) (Err fault) → EndsAt storages IsOfOthers old.node fault new.node
  ends_back old new life_fault.Memory turn_fault.Memory takes refusal = before new.node (ap (λ (l : LifeState S). l.node) takes)
  ends_back old new life_fault.Memory (turn_fault.Node found) takes refusal = let is = refusal.0 in absurd (cc)
  ends_back old new (life_fault.Node found) fault takes refusal =
      at_input IsOfOthers old.node new.node (input.Message takes.first) found fault (λ no. no) takes.goes_on.happens refusal

  pub ends_asked : (old new : LifeState S) (query : Query) (outcome : Result (Unit {0}) LifeFault) (fault : TurnFault)
      → Does storages old (Asked query) outcome new → IsRefusal outcome (Err fault) → EndsAt storages IsAsked old.node fault new.node
  ends_asked old new query (Ok done) turn_fault.Memory does (inl is) = absurd (cc)
  ends_asked old new query (Ok done) turn_fault.Memory does (inr is) = absurd (cc)
  ends_asked old new query (Ok done) (turn_fault.Node found) does refusal = let is = refusal.0 in absurd (cc)
  ends_asked old new query (Err life_fault.Memory) turn_fault.Memory does refusal =
      before new.node (ap (λ (l : LifeState S). l.node) does)
  ends_asked old new query (Err life_fault.Memory) (turn_fault.Node found) does refusal = let is = refusal.0 in absurd (cc)
  ends_asked old new query (Err (life_fault.Node found)) turn_fault.Memory does (inl is) = absurd (cc)
  ends_asked old new query (Err (life_fault.Node found)) turn_fault.Memory does (inr is) =
      let same : found ≡ node_fault.Memory = cc in
      at_it (Asked query (Err found)) found turn_fault.Memory new.node tt does.happens refl same
  ends_asked old new query (Err (life_fault.Node found)) (turn_fault.Node other) does refusal =
      let same : found ≡ other = let is = refusal.0 in cc in
      let ended = asked_ended old new query (Err (life_fault.Node found)) (turn_fault.Node other) does refusal in
      at_it (Asked query (Err found)) found (turn_fault.Node other) new.node tt does.happens refl (same, ended.0)
