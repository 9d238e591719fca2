-- What a node makes of an input that it takes, and frames that are handed on one after the other.
use Rattle.std.proofs.Common.{◌≡◌, ◌≢◌, ◌⊎◌, inl, inr, ℕ, zero, suc, ◌-◌, ◌<◌, ◌≤◌, List, [], ◌∷◌, ◌++◌, length, take, drop, slice_get}
use Rattle.std.proofs.Common.{slice_set, Contains, Bool, true, false, Option, Some, None, IsSome, IfSome, MatchBool, Result, Ok, Err, refl}
use Rattle.std.proofs.Common.{sym, ap, subst, ◌∙◌, arith, rules}
use Rattle.std.specs.Prelude.{is_some}
use Rattle.std.proofs.Math.Seq.{take-length}
use Rattle.std.proofs.lemmas.List.{length-drop, append_assoc}
use Rattle.std.proofs.lemmas.Option.{same_Some}
use Rattle.stable.specs.Script.{Script}
use Rattle.stable.specs.declared.stable.Stable.{Ghosts}
use Rattle.wire.specs.declared.frames.envelope.Envelope.{Envelope}
use Rattle.node_model.specs.Faults.{is_stop_fault}
use Rattle.node_model.specs.Loading.{IsReplicaOf}
use Rattle.node_model.specs.Replicas.{ReplicaState}
use Rattle.node_model.specs.Nodes.{NodeState, NodeSteps, TakesInput, StopsOnInput, RefusesInput}
use Rattle.node_model.specs.Outputs.{Response}
use Rattle.node_model.specs.Taking.{Takes}
use Rattle.node_model.specs.declared.fault.NodeFault.{NodeFault}
use Rattle.node_model.specs.declared.input.Input.{Input}
use Rattle.node_model.specs.declared.input.Input.TheVariants as input
use Rattle.node_model.proofs.Members.{takes_own}
use Rattle.world_model.specs.Progress.{replica_in, replica_at}
use Rattle.world_model.specs.Rounds.{is_up, is_up_node, DeliversTo, nothing, elsewhere, there}
use Rattle.world_model.specs.Worlds.{WorldState, TakesAt, ReceivesAt, DeliversFrame, with_node, with_response, without_wait, recorded}

-- ---- places of a list
pub set_here : {A : Type 0} (xs : List A) (i : ℕ) (x y : A) → slice_get xs i ≡ Some x → slice_get (slice_set xs i y) i ≡ Some y
set_here [] i x y e = absurd (cc)
set_here (z ∷ zs) zero x y e = refl
set_here (z ∷ zs) (suc i) x y e = set_here zs i x y e

pub set_other : {A : Type 0} (xs : List A) (i j : ℕ) (y : A) → j ≢ i → slice_get (slice_set xs i y) j ≡ slice_get xs j
set_other [] i j y e = refl
set_other (z ∷ zs) zero zero y e = absurd (e refl)
set_other (z ∷ zs) zero (suc j) y e = refl
set_other (z ∷ zs) (suc i) zero y e = refl
set_other (z ∷ zs) (suc i) (suc j) y e = set_other zs i j y (λ same. e (ap suc same))

-- an element within a list stands there too when more is behind it
pub within_more : {A : Type 0} (xs ys : List A) (k : ℕ) (x : A) → k < length xs → slice_get (xs ++ ys) k ≡ Some x → slice_get xs k ≡ Some x
within_more [] ys k x less e = absurd (omega (arith, less))
within_more (z ∷ zs) ys zero x less e = e
within_more (z ∷ zs) ys (suc k) x less e = within_more zs ys k x (omega (arith, less)) e

-- the part of a list from one place to another
abbrev pub part : {A : Type 0} → List A → ℕ → ℕ → List A
part xs first end = take (end - first) (drop first xs)

part_one : {A : Type 0} (xs : List A) (k : ℕ) (x : A) → slice_get xs k ≡ Some x → take (suc k) xs ≡ take k xs ++ x ∷ []
part_one [] k x e = absurd (cc)
part_one (z ∷ zs) zero x e = ap (λ (y : _). y ∷ []) (same_Some z x e)
part_one (z ∷ zs) (suc k) x e = ap (λ (ys : List _). z ∷ ys) (part_one zs k x e)

part_more : {A : Type 0} (xs : List A) (first k : ℕ) (x : A) → first ≤ k → slice_get xs k ≡ Some x
    → part xs first (suc k) ≡ part xs first k ++ x ∷ []
part_more xs zero k x from e =
    let more : suc k - 0 ≡ suc k = omega arith in
    let all : k - 0 ≡ k = omega arith in
    ap (λ (n : ℕ). take n xs) more ∙ (part_one xs k x e ∙ ap (λ (n : ℕ). take n xs ++ x ∷ []) (sym all))
part_more [] (suc first) k x from e = absurd (cc)
part_more (z ∷ zs) (suc first) zero x from e = absurd (omega (arith, from))
part_more (z ∷ zs) (suc first) (suc k) x from e =
    let more : suc (suc k) - suc first ≡ suc k - first = omega arith in
    let all : suc k - suc first ≡ k - first = omega arith in
    ap (λ (n : ℕ). take n (drop first zs)) more ∙ (part_more zs first k x (omega (arith, from)) e
    ∙ ap (λ (n : ℕ). take n (drop first zs) ++ x ∷ []) (sym all))

-- two numbers are one, or not
pub same_or_not : (m n : ℕ) → (m ≡ n) ⊎ (m ≢ n)
same_or_not zero zero = inl refl
same_or_not zero (suc n) = inr (λ e. omega (arith, e))
same_or_not (suc m) zero = inr (λ e. omega (arith, e))
same_or_not (suc m) (suc n) = elim (same_or_not m n) [
  | inl same ↦ inl (ap suc same)
  | inr other ↦ inr (λ e. other (omega (arith, e)))
]

-- ---- a node takes an input
pub record TookAt {S : Type 0} (old : WorldState S) (node : ℕ) (i : Input) (new : WorldState S) : Type 0 where
  pub replica : ReplicaState
  pub here : replica_at old node ≡ Some replica
  pub replica_then : ReplicaState
  pub here_then : replica_at new node ≡ Some replica_then
  pub said : Response
  pub takes : Takes replica i replica_then said
  pub others : (j : ℕ) → j ≢ node → replica_at new j ≡ replica_at old j
  pub frames_ : new.frames ≡ old.frames ++ said.sends

-- an envelope comes to its receiver
abbrev pub Took : {S : Type 0} → WorldState S → Envelope → WorldState S → Type 0
Took old e new = TookAt old e.to (input.Message e) new

module _ {S : Type 0} (storages : Ghosts (Script S)) (old : WorldState S) (node : ℕ) (i : Input) where
  took_so : (before after : NodeState (Script S)) (m : ReplicaState) (said : Response) (new : WorldState S) → slice_get old.nodes node ≡ Some before
      → before.up ≡ Some m → TakesInput storages before m i said after → new ≡ with_response (with_node old node after) node said
      → TookAt old node i new
  took_so before after m said new here up h leaves =
      let up_then : after.up ≡ Some h.replica = ap (λ (n : NodeState (Script S)). n.up) h.leaves in
      record {
        replica = m;
        here = ap (λ (o : Option (NodeState (Script S))). replica_in o) here ∙ up;
        replica_then = h.replica;
        here_then = ap (λ (w : WorldState S). replica_at w node) leaves
            ∙ (ap (λ (o : Option (NodeState (Script S))). replica_in o) (set_here old.nodes node before after here) ∙ up_then);
        said = said;
        takes = h.takes;
        others = λ j other. ap (λ (w : WorldState S). replica_at w j) leaves
            ∙ ap (λ (o : Option (NodeState (Script S))). replica_in o) (set_other old.nodes node j after other);
        frames_ = ap (λ (w : WorldState S). w.frames) leaves;
      }

  -- what a node that is up, and that takes the input, makes of it
  pub took_of : (before after : NodeState (Script S)) (m : ReplicaState) (said : Response) (new : WorldState S)
      → slice_get old.nodes node ≡ Some before
      → before.up ≡ Some m → NodeSteps storages before i (Ok said) after → new ≡ with_response (with_node old node after) node said
      → TookAt old node i new
  took_of before after m said new here up steps leaves =
      took_so before after m said new here up
      (subst (λ (o : Option ReplicaState). IfSome o (λ k. TakesInput storages before k i said after)) up steps.taken) leaves

-- ---- an envelope comes
module _ {S : Type 0} (storages : Ghosts (Script S)) where
  -- who refuses or goes down on an envelope isn't up behind it
  not_failed : (before after : NodeState (Script S)) (m : ReplicaState) (e : Envelope) (f : NodeFault) (b : Bool) → is_some after.up ≡ true
      → MatchBool b (StopsOnInput storages before m (input.Message e) f after) (RefusesInput before m (input.Message e) f after) → ⊥
  not_failed before after m e f true up h =
      let down : after.up ≡ None = ap (λ (n : NodeState (Script S)). n.up) h.leaves in
      let not : is_some after.up ≡ false = ap (λ (o : Option ReplicaState). is_some o) down in
      absurd (cc)
  not_failed before after m e f false up h = let never : None ≡ Some f = h.refused in absurd (cc)

  up_there : (old new : WorldState S) (node : ℕ) (before after : NodeState (Script S)) → slice_get old.nodes node ≡ Some before
      → new.nodes ≡ slice_set old.nodes node after → is_up new node ≡ true → is_some after.up ≡ true
  up_there old new node before after here leaves up =
      sym (ap (λ (o : Option (NodeState (Script S))). is_up_node o) (ap (λ (ns : List (NodeState (Script S))). slice_get ns node) leaves
      ∙ set_here old.nodes node before after here)) ∙ up

  took_result : (old : WorldState S) (e : Envelope) (before after : NodeState (Script S)) (m : ReplicaState) (r : Result Response NodeFault)
      (new : WorldState S) → slice_get old.nodes e.to ≡ Some before → before.up ≡ Some m
      → NodeSteps storages before (input.Message e) r after → new ≡ recorded (with_node old e.to after) e.to r → is_up new e.to ≡ true
      → Took old e new
  took_result old e before after m (Ok said) new here up steps leaves stays =
      took_of storages old e.to (input.Message e) before after m said new here up steps leaves
  took_result old e before after m (Err f) new here up steps leaves stays = absurd (not_failed before after m e f (is_stop_fault f)
      (up_there old new e.to before after here (ap (λ (w : WorldState S). w.nodes) leaves) stays)
      (subst (λ (o : Option ReplicaState). IfSome o (λ k. MatchBool (is_stop_fault f) (StopsOnInput storages before k (input.Message e) f after)
      (RefusesInput before k (input.Message e) f after))) up steps.refused))

  took_at : (old : WorldState S) (e : Envelope) (receiver : NodeState (Script S)) (m : ReplicaState) (b : Bool) (new : WorldState S)
      → slice_get old.nodes e.to ≡ Some receiver → receiver.up ≡ Some m → TakesAt storages old e.to (input.Message e) b new
      → is_up new e.to ≡ true → Took old e new
  took_at old e receiver m b new here up h stays =
      let same : receiver ≡ h.before = same_Some receiver h.before (sym here ∙ h.here) in
      took_result old e h.before h.after m h.result new h.here (sym (ap (λ (n : NodeState (Script S)). n.up) same)
      ∙ up) h.steps h.leaves stays

  took_up : (old : WorldState S) (e : Envelope) (new : WorldState S) (o : Option ReplicaState) (h : ReceivesAt storages old e new)
      → h.receiver.up ≡ o → is_up new e.to ≡ true → Took old e new
  took_up old e new None h up stays =
      let same : slice_get new.nodes e.to ≡ Some h.receiver = ap (λ (w : WorldState S). slice_get w.nodes e.to) (h.lost up) ∙ h.here in
      let down : is_up new e.to ≡ false =
      ap (λ (o : Option (NodeState (Script S))). is_up_node o) same ∙ ap (λ (o : Option ReplicaState). is_some o) up in
      absurd (cc)
  took_up old e new (Some m) h up stays =
      let takes = h.taken (subst (λ (o : Option ReplicaState). IsSome o) (sym up) refl) in
      took_at old e h.receiver m takes.0 new h.here up takes.1 stays

  took_quiet : (old : WorldState S) (k : ℕ) (e : Envelope) (new : WorldState S) → Took (without_wait old k) e new → Took old e new
  took_quiet old k e new h = record {
    replica = h.replica;
    here = h.here;
    replica_then = h.replica_then;
    here_then = h.here_then;
    said = h.said;
    takes = h.takes;
    others = h.others;
    frames_ = h.frames_;
  }

  -- the receiver of a frame is up behind it: it took the envelope
  pub took_frame : (old : WorldState S) (k : ℕ) (e : Envelope) (new : WorldState S) → DeliversFrame storages old k new
      → slice_get old.frames k ≡ Some e → is_up new e.to ≡ true → Took old e new
  took_frame old k e new h is stays =
      let same : h.frame ≡ e = same_Some h.frame e (sym h.sent ∙ is) in
      subst (λ (f : Envelope). is_up new f.to ≡ true → Took old f new) same
      (λ up. took_quiet old k h.frame new (took_up (without_wait old k) h.frame new h.receives.receiver.up h.receives refl up)) stays

-- ---- envelopes come, one after the other
-- of these envelopes, in order, those to the receivers are taken
pub data HandsOn {S : Type 0} (receivers : List ℕ) : List Envelope → WorldState S → WorldState S → Type 0 where
  ends : (w : WorldState S) → HandsOn receivers [] w w
  skips : (e : Envelope) (es : List Envelope) (w new : WorldState S) → (Contains receivers e.to → ⊥) → HandsOn receivers es w new
      → HandsOn receivers (e ∷ es) w new
  takes : (e : Envelope) (es : List Envelope) (w mid new : WorldState S) → Contains receivers e.to → Took w e mid
      → HandsOn receivers es mid new → HandsOn receivers (e ∷ es) w new

module _ {S : Type 0} (receivers : List ℕ) where
  -- some, and then others
  pub hands_both : (es fs : List Envelope) (w mid new : WorldState S) → HandsOn receivers es w mid → HandsOn receivers fs mid new
      → HandsOn receivers (es ++ fs) w new
  hands_both _ fs w mid new (ends w_) then = then
  hands_both _ fs w mid new (skips e es w_ mid_ not h) then = skips e (es ++ fs) w new not (hands_both es fs w mid new h then)
  hands_both _ fs w mid new (takes e es w_ between mid_ among took h) then =
      takes e (es ++ fs) w between new among took (hands_both es fs between mid new h then)

  pub record HandsBoth (es fs : List Envelope) (w new : WorldState S) : Type 0 where
    pub mid : WorldState S
    pub first : HandsOn receivers es w mid
    pub then : HandsOn receivers fs mid new

  pub hands_apart : (es fs : List Envelope) (w new : WorldState S) → HandsOn receivers (es ++ fs) w new → HandsBoth es fs w new
  hands_apart [] fs w new h = record { mid = w; first = ends w; then = h }
  hands_apart (e ∷ es) fs w new (skips e_ es_ w_ new_ not h) =
      let more = hands_apart es fs w new h in
      record { mid = more.mid; first = skips e es w more.mid not more.first; then = more.then }
  hands_apart (e ∷ es) fs w new (takes e_ es_ w_ between new_ among took h) =
      let more = hands_apart es fs between new h in
      record { mid = more.mid; first = takes e es w between more.mid among took more.first; then = more.then }

  -- frames are never taken back
  pub frames_more : (es : List Envelope) (w new : WorldState S) → HandsOn receivers es w new
      → (more : List Envelope) × (new.frames ≡ w.frames ++ more)
  frames_more _ w new (ends w_) = ([], search rules)
  frames_more _ w new (skips e es w_ new_ not h) = frames_more es w new h
  frames_more _ w new (takes e es w_ mid new_ among took h) =
      let rest = frames_more es mid new h in (
        took.said.sends ++ rest.0,
        rest.1 ∙ (ap (λ (fs : List Envelope). fs ++ rest.0) took.frames_
            ∙ append_assoc w.frames took.said.sends rest.0),
      )

module _ {S : Type 0} (storages : Ghosts (Script S)) (receivers : List ℕ) (old : WorldState S) (first : ℕ) where
  not_before : (k : ℕ) (new : WorldState S) → DeliversTo storages receivers old first k new → first ≤ k
  not_before _ new nothing = omega arith
  not_before _ new (elsewhere k e new_ h is not) = let less = not_before k new h in omega (arith, less)
  not_before _ new (there k e between new_ h is among delivers up) = let less = not_before k between h in omega (arith, less)

  -- the frame was sent before any of these came
  was_sent : (k : ℕ) (e : Envelope) (es : List Envelope) (now : WorldState S) → HandsOn receivers es old now → k < length old.frames
      → slice_get now.frames k ≡ Some e → slice_get old.frames k ≡ Some e
  was_sent k e es now h less is =
      let more = frames_more receivers es old now h in
      within_more old.frames more.0 k e less (subst (λ (fs : List Envelope). slice_get fs k ≡ Some e) more.1 is)

  one_more : (k : ℕ) (e : Envelope) (new : WorldState S) → first ≤ k → slice_get old.frames k ≡ Some e
      → HandsOn receivers (part old.frames first k ++ e ∷ []) old new → HandsOn receivers (part old.frames first (suc k)) old new
  one_more k e new from is h =
      subst (λ (es : List Envelope). HandsOn receivers es old new) (sym (part_more old.frames first k e from is)) h

  -- what comes of the frames from a number on
  pub hands_part : (k : ℕ) (new : WorldState S) → DeliversTo storages receivers old first k new → k ≤ length old.frames
      → HandsOn receivers (part old.frames first k) old new
  hands_part _ new nothing within =
      let none : first - first ≡ 0 = omega arith in
      subst (λ (n : ℕ). HandsOn receivers (take n (drop first old.frames)) old old) (sym none) (ends old)
  hands_part _ new (elsewhere k e new_ h is not) within =
      let before = hands_part k new h (omega (arith, within)) in
      one_more k e new (not_before k new h) (was_sent k e (part old.frames first k) new before (omega (arith, within)) is)
      (hands_both receivers (part old.frames first k) (e ∷ []) old new new before (skips e [] new new not (ends new)))
  hands_part _ new (there k e between new_ h is among delivers up) within =
      let before = hands_part k between h (omega (arith, within)) in
      one_more k e new (not_before k between h) (was_sent k e (part old.frames first k) between before (omega (arith, within)) is)
      (hands_both receivers (part old.frames first k) (e ∷ []) old between new before
      (takes e [] between new new among (took_frame storages between k e new delivers is up) (ends new)))

  -- and of all that were sent by now
  pub hands_all : (new : WorldState S) → DeliversTo storages receivers old first (length old.frames) new
      → HandsOn receivers (drop first old.frames) old new
  hands_all new h =
      let all : part old.frames first (length old.frames) ≡ drop first old.frames =
      subst (λ (n : ℕ). take n (drop first old.frames) ≡ drop first old.frames) (length-drop first old.frames)
      (take-length (drop first old.frames)) in
      subst (λ (es : List Envelope). HandsOn receivers es old new) all (hands_part (length old.frames) new h (omega arith))

-- ---- who is up stays up
module _ {S : Type 0} where
  pub stays_up : (old : WorldState S) (node : ℕ) (i : Input) (new : WorldState S) → TookAt old node i new
      → (j : ℕ) → IsSome (replica_at old j) → IsSome (replica_at new j)
  stays_up old node i new h j up = elim (same_or_not j node) [
    | inl same ↦ subst (λ (k : ℕ). IsSome (replica_at new k)) (sym same) (subst (λ (o : Option ReplicaState). IsSome o) (sym h.here_then) refl)
    | inr other ↦ subst (λ (o : Option ReplicaState). IsSome o) (sym (h.others j other)) up
  ]

  pub hands_up : (receivers : List ℕ) (es : List Envelope) (old new : WorldState S) → HandsOn receivers es old new
      → (j : ℕ) → IsSome (replica_at old j) → IsSome (replica_at new j)
  hands_up receivers _ old new (ends w) j up = up
  hands_up receivers _ old new (skips e es w new_ not h) j up = hands_up receivers es old new h j up
  hands_up receivers _ old new (takes e es w mid new_ among took h) j up =
      hands_up receivers es mid new h j (stays_up old e.to (input.Message e) mid took j up)

-- ---- who is one of the run stays so
pub same_replica : (m n : ReplicaState) → Some m ≡ Some n → m ≡ n
same_replica m n e = let same : m ≡ n = cc in same

module _ {S : Type 0} (nodes : ℕ) where
  -- whoever is up is the node of that number, of so many
  abbrev pub AreMembers : WorldState S → Type 0
  AreMembers w = (j : ℕ) (m : ReplicaState) → replica_at w j ≡ Some m → IsReplicaOf j nodes m

  pub stay_members : (old : WorldState S) (node : ℕ) (i : Input) (new : WorldState S) → TookAt old node i new → AreMembers old
      → AreMembers new
  stay_members old node i new took known j m here = elim (same_or_not j node) [
    | inl same ↦
        let is : took.replica_then ≡ m =
        same_replica took.replica_then m (sym took.here_then ∙ (ap (λ (k : ℕ). replica_at new k) (sym same) ∙ here)) in
        subst (λ (k : ℕ). IsReplicaOf k nodes m) (sym same) (subst (λ (x : ReplicaState). IsReplicaOf node nodes x) is
        (takes_own node nodes took.replica (known node took.replica took.here) i took.replica_then took.said took.takes))
    | inr other ↦ known j m (sym (took.others j other) ∙ here)
  ]

  pub hands_members : (receivers : List ℕ) (es : List Envelope) (old new : WorldState S) → HandsOn receivers es old new → AreMembers old
      → AreMembers new
  hands_members receivers _ old new (ends w) known = known
  hands_members receivers _ old new (skips e es w new_ not h) known = hands_members receivers es old new h known
  hands_members receivers _ old new (takes e es w mid new_ among took h) known =
      hands_members receivers es mid new h (stay_members old e.to (input.Message e) mid took known)
