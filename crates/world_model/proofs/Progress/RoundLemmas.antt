-- A round by hand, phase by phase.
use Rattle.std.proofs.Common.{◌≡◌, ◌⊎◌, ℕ, ◌+◌, ◌≤◌, inl, inr, List, [], ◌∷◌, Bool, true, false, Option, Some, None, IsSome, IfOk, IfErr}
use Rattle.std.proofs.Common.{OnErr, IsErrOf, MatchOption, drop, take, ◌-◌, rules, Result, Ok, Err, length, slice_get, Contains, refl, sym}
use Rattle.std.proofs.Common.{ap, subst, ◌∙◌, length-append, add-one, arith}
use Rattle.std.proofs.Math.Seq.{take-length}
use Rattle.std.proofs.lemmas.List.{length-drop}
use Rattle.stable.specs.Script.{Script}
use Rattle.stable.specs.declared.stable.Stable.{Ghosts}
use Rattle.wire.specs.declared.frames.envelope.Envelope.{Envelope}
use Rattle.node_model.specs.Replicas.{ReplicaState}
use Rattle.node_model.specs.Outputs.{Response}
use Rattle.node_model.specs.declared.fault.NodeFault.{NodeFault}
use Rattle.node_model.specs.declared.input.Input.{Input}
use Rattle.node_model.specs.declared.input.Input.TheVariants as input
use Rattle.events.specs.declared.event.Event.{Event}
use Rattle.events.specs.declared.event.Event.TheVariants as event
use Rattle.events.specs.declared.fault.WorldFault.{WorldFault}
use Rattle.events.specs.declared.fault.WorldFault.TheVariants as fault
use Rattle.world_model.specs.declared.lists.StepOutcome.{StepOutcome}
use Rattle.world_model.specs.declared.lists.StepOutcome.TheVariants as outcome
use Rattle.world_model.specs.declared.round_end.RoundEnd.{RoundEnd}
use Rattle.world_model.specs.declared.round_end.RoundEnd.TheVariants.{NotAQuorum, Down, Behind, Refused, Stopped, TooLow, Decided}
use Rattle.world_model.specs.Rounds.{is_up, DeliversTo, nothing, elsewhere, there, GoesDownOn, DeliversPart, NoneRefuses, RoundIsInterrupted}
use Rattle.world_model.specs.Rounds.{CanMeet}
use Rattle.world_model.specs.Rounds.{RoundBreaksOff, GoesOn, GoesToItsEnd, MeetingEnds, Phase, begun, asked, answered, voted, heard, receivers_after}
use Rattle.world_model.specs.Rounds.{ComesThrough, begins, asks}
use Rattle.world_model.specs.Rounds.{answers, votes, hears, GoesDown, at_once, on_the_way, RoundEndsIn, HasBegun, RoundEnds, IsPartOfRound, none}
use Rattle.world_model.specs.Rounds.{some}
use Rattle.world_model.specs.Rounds.{untold}
use Rattle.world_model.specs.Worlds.{WorldState, TakesAt, ReceivesAt, DeliversFrame, Steps, recorded, with_node, with_outcome, without_wait}

abbrev failed : WorldFault → Result RoundEnd WorldFault
failed f = Err f

-- what holds anyhow holds of an error
pub on_err : {A F : Type 0} (r : Result A F) {X : Type 0} → X → OnErr r X
on_err (Ok a) x = search rules
on_err (Err f) x = x

-- nothing is found
pub at_none : {A : Type 0} (X : Type 0) (P : A → Type 0) (o : Option A) → o ≡ None → MatchOption o X P → X
at_none X P None e x = x
at_none X P (Some a) e x = absurd cc

-- a slice from a number on
pub sliced : (fs gs : List Envelope) (n p : ℕ) → fs ≡ gs → n ≡ p → take (length fs - n) (drop n fs) ≡ drop p gs
sliced fs gs n p same at =
    subst (λ k. take k (drop n fs) ≡ drop n fs) (length-drop n fs) (take-length (drop n fs)) ∙ ap (λ k. drop k fs) at ∙ ap (drop p) same

-- ---- frames are never taken back
module _ {S : Type 0} where
  recorded_frames : (w : WorldState S) (node : ℕ) (r : Result Response NodeFault) → length w.frames ≤ length (recorded w node r).frames
  recorded_frames w node (Ok said) = let e = length-append w.frames said.sends in omega (arith, e)
  recorded_frames w node (Err f) = omega arith

module _ {S : Type 0} (storages : Ghosts (Script S)) where
  pub taken_frames : (old : WorldState S) (node : ℕ) (i : Input) (taken : Bool) (new : WorldState S) → TakesAt storages old node i taken new
      → length old.frames ≤ length new.frames
  taken_frames old node i taken new h =
      subst (λ (w : WorldState S). length old.frames ≤ length w.frames) (sym h.leaves)
      (recorded_frames (with_node old node h.after) node h.result)

  received_frames : (old : WorldState S) (frame : Envelope) (new : WorldState S) (o : Option ReplicaState) (h : ReceivesAt storages old frame new)
      → h.receiver.up ≡ o → length old.frames ≤ length new.frames
  received_frames old frame new None h up =
      subst (λ (w : WorldState S). length old.frames ≤ length w.frames) (sym (h.lost up)) (omega arith)
  received_frames old frame new (Some m) h up =
      let takes = h.taken (subst (λ (o : Option ReplicaState). IsSome o) (sym up) refl) in
      taken_frames old frame.to (input.Message frame) takes.0 new takes.1

  pub delivered_frames : (old : WorldState S) (k : ℕ) (new : WorldState S) → DeliversFrame storages old k new
      → length old.frames ≤ length new.frames
  delivered_frames old k new h = received_frames (without_wait old k) h.frame new h.receives.receiver.up h.receives refl

  -- ---- one frame after the other
  -- the next one goes elsewhere
  pub passed_by : (receivers : List ℕ) (old : WorldState S) (first k : ℕ) (e : Envelope) (now seen : WorldState S)
      → DeliversTo storages receivers old first k now → slice_get now.frames k ≡ Some e → (Contains receivers e.to → ⊥)
      → seen ≡ now → length old.frames ≤ length now.frames
      → DeliversTo storages receivers old first (k + 1) seen × (length old.frames ≤ length seen.frames)
  passed_by receivers old first k e now seen before is not same longer =
      subst (λ (w : WorldState S). DeliversTo storages receivers old first (k + 1) w × (length old.frames ≤ length w.frames)) (sym same)
      (subst (λ m. DeliversTo storages receivers old first m now) (sym (add-one k)) (elsewhere k e now before is not), longer)

  -- it comes to its receiver, who stays up
  pub came : (receivers : List ℕ) (old : WorldState S) (first k to : ℕ) (e : Envelope) (now new seen : WorldState S)
      → DeliversTo storages receivers old first k now → slice_get now.frames k ≡ Some e → to ≡ e.to → Contains receivers to
      → DeliversFrame storages now k new → is_up new to ≡ true → seen ≡ new → length old.frames ≤ length now.frames
      → DeliversTo storages receivers old first (k + 1) seen × (length old.frames ≤ length seen.frames)
  came receivers old first k to e now new seen before is named among delivers up same longer =
      let more = delivered_frames now k new delivers in
      subst (λ (w : WorldState S). DeliversTo storages receivers old first (k + 1) w × (length old.frames ≤ length w.frames)) (sym same) (
        subst (λ m. DeliversTo storages receivers old first m new) (sym (add-one k))
            (there k e now new before is (subst (λ (j : ℕ). Contains receivers j) named among) delivers
            (subst (λ (j : ℕ). is_up new j ≡ true) named up)),
        omega (arith, longer, more),
      )

-- ---- what every step keeps, and what a told outcome keeps, a round keeps
module _ {S : Type 0} (storages : Ghosts (Script S)) (Kept : WorldState S → Type 0)
    (step_keeps : (old : WorldState S) (e : Event) (new : WorldState S) → Steps storages old e new → Kept old → Kept new)
    (told_keeps : (w : WorldState S) (o : StepOutcome) → Kept w → Kept (with_outcome w o)) where
  same_keeps : (old new : WorldState S) → new ≡ old → Kept old → Kept new
  same_keeps old new e kept = subst (λ (w : WorldState S). Kept w) (sym e) kept

  delivers_keep : (receivers : List ℕ) (old : WorldState S) (first k : ℕ) (new : WorldState S)
      → DeliversTo storages receivers old first k new
      → Kept old → Kept new
  delivers_keep receivers old first _ new nothing kept = kept
  delivers_keep receivers old first _ new (elsewhere k e new_ before is not) kept = delivers_keep receivers old first k new before kept
  delivers_keep receivers old first _ new (there k e between new_ before is among delivers up) kept =
      step_keeps between (event.Deliver k) new delivers (delivers_keep receivers old first k between before kept)

  goes_down_keeps : (receivers : List ℕ) (old : WorldState S) (first m : ℕ) (new : WorldState S)
      → GoesDownOn storages receivers old first m new
      → Kept old → Kept new
  goes_down_keeps receivers old first m new h kept =
      step_keeps h.between (event.Deliver h.frame) new h.delivers (delivers_keep receivers old first h.frame h.between h.before kept)

  module _ (old : WorldState S) (node : ℕ) (members : List ℕ) (kept : Kept old) where
    comes_keep : (phase : Phase) (first : ℕ) (new : WorldState S) → ComesThrough storages old node members phase first new → Kept new
    comes_keep _ _ new (begins new_ takes) = step_keeps old (event.Timeout node) new (true, takes) kept
    comes_keep _ _ new (asks first between new_ before delivers) =
        delivers_keep members between first _ new delivers (comes_keep begun first between before)
    comes_keep _ _ new (answers first between new_ before willing delivers) =
        delivers_keep (node ∷ []) between first _ new delivers (comes_keep asked first between before)
    comes_keep _ _ new (votes first between new_ before delivers) =
        delivers_keep members between first _ new delivers (comes_keep answered first between before)
    comes_keep _ _ new (hears first between new_ before delivers) =
        delivers_keep (node ∷ []) between first _ new delivers (comes_keep voted first between before)

    down_keeps : (m : ℕ) (new : WorldState S) → GoesDown storages old node members m new → Kept new
    down_keeps m new (at_once fails named) = step_keeps old (event.Timeout node) new (false, fails.takes) kept
    down_keeps m new (on_the_way phase first between comes down) =
        goes_down_keeps (receivers_after phase node members) between first m new down (comes_keep phase first between comes)

    ends_keep : (end : RoundEnd) (new : WorldState S) → RoundEndsIn storages old node members end new → Kept new
    ends_keep NotAQuorum new h = same_keeps old new h.1 kept
    ends_keep (Down m) new h = same_keeps old new h.2 kept
    ends_keep (Behind m) new h = same_keeps old new h.3 kept
    ends_keep (Refused f) new h = same_keeps old new h.1.1 kept
    ends_keep (Stopped m) new h = down_keeps m new h.1
    ends_keep (TooLow greatest) new h =
        delivers_keep (node ∷ []) h.1.between h.1.first _ new h.1.delivers (comes_keep asked h.1.first h.1.between h.1.comes)
    ends_keep (Decided slot) new h = comes_keep heard h.1.first new h.1.comes

    round_keeps : (end : RoundEnd) (new : WorldState S) → RoundEnds storages old node members end new → Kept new
    round_keeps end new h = same_keeps (with_outcome h.reached (outcome.Round node end)) new h.leaves
        (told_keeps h.reached (outcome.Round node end) (ends_keep end h.reached h.ends))

    part_keeps : (new : WorldState S) → IsPartOfRound storages old node members new → Kept new
    part_keeps new (none same) = same_keeps old new same kept
    part_keeps new (some meets h) =
        delivers_keep (receivers_after h.phase node members) h.between h.first h.delivers.end new h.delivers.delivers
        (comes_keep h.phase h.first h.between h.comes)
    part_keeps new (untold end h) = ends_keep end new h

    -- whatever a round answers
    pub call_keeps : (new : WorldState S) (result : Result RoundEnd WorldFault)
        → IfOk result (λ end. RoundEnds storages old node members end new)
        → (IsErrOf result fault.NoSuchNode → new ≡ old) → (IsErrOf result fault.Memory → IsPartOfRound storages old node members new)
        → IfErr result (λ f. (f ≡ fault.NoSuchNode) ⊎ (f ≡ fault.Memory)) → Kept new
    call_keeps new (Ok end) ends unchanged part faults = round_keeps end new ends
    call_keeps new (Err f) ends unchanged part (inl e) = same_keeps old new (unchanged (ap failed e)) kept
    call_keeps new (Err f) ends unchanged part (inr e) = part_keeps new (part (ap failed e))

module _ {S : Type 0} (storages : Ghosts (Script S)) where
  -- the same frames, by other names of their numbers
  pub moved : (receivers : List ℕ) (old new : WorldState S) (p q n : ℕ) → q ≡ p → n ≡ length old.frames
      → DeliversTo storages receivers old q n new
      → DeliversTo storages receivers old p (length old.frames) new
  moved receivers old new p q n from to h =
      subst (λ k. DeliversTo storages receivers old p k new) to (subst (λ k. DeliversTo storages receivers old k n new) from h)

-- ---- a round, phase by phase
module _ {S : Type 0} (storages : Ghosts (Script S)) (old : WorldState S) (node : ℕ) (members : List ℕ) where
  abbrev Comes : Phase → ℕ → WorldState S → Type 0
  Comes = ComesThrough storages old node members

  pub begun_by : (mid new : WorldState S) (p : ℕ) → mid ≡ old → p ≡ length old.frames → TakesAt storages mid node input.Timeout true new
      → Comes begun p new
  begun_by mid new p same here takes =
      subst (λ k. Comes begun k new) (sym here)
      (begins new (subst (λ (w : WorldState S). TakesAt storages w node input.Timeout true new) same takes))

  pub asked_by : (p q n : ℕ) (between new : WorldState S) → Comes begun p between → q ≡ p → DeliversTo storages members between q n new
      → n ≡ length between.frames → Comes asked n new
  asked_by p q n between new before from delivers to =
      subst (λ k. Comes asked k new) (sym to) (asks p between new before (moved storages members between new p q n from to delivers))

  pub answered_by : (p q n : ℕ) (between new : WorldState S) → Comes asked p between → NoneRefuses (drop p between.frames) → q ≡ p
      → DeliversTo storages (node ∷ []) between q n new → n ≡ length between.frames → Comes answered n new
  answered_by p q n between new before willing from delivers to =
      subst (λ k. Comes answered k new) (sym to) (answers p between new before willing
      (moved storages (node ∷ []) between new p q n from to delivers))

  pub voted_by : (p q n : ℕ) (between new : WorldState S) → Comes answered p between → q ≡ p → DeliversTo storages members between q n new
      → n ≡ length between.frames → Comes voted n new
  voted_by p q n between new before from delivers to =
      subst (λ k. Comes voted k new) (sym to) (votes p between new before (moved storages members between new p q n from to delivers))

  pub heard_by : (p q n : ℕ) (between new : WorldState S) → Comes voted p between → q ≡ p → DeliversTo storages (node ∷ []) between q n new
      → n ≡ length between.frames → Comes heard n new
  heard_by p q n between new before from delivers to =
      subst (λ k. Comes heard k new) (sym to) (hears p between new before (moved storages (node ∷ []) between new p q n from to delivers))

  -- who goes down by what was sent in a phase
  pub down_by : (phase : Phase) (p q m : ℕ) (between new : WorldState S) → Comes phase p between → q ≡ p
      → GoesDownOn storages (receivers_after phase node members) between q m new → GoesDown storages old node members m new
  down_by phase p q m between new before from down =
      on_the_way phase p between before (subst (λ k. GoesDownOn storages (receivers_after phase node members) between k m new) from down)

  -- memory is wanting in a phase
  pub broken_by : (phase : Phase) (p q : ℕ) (between new : WorldState S) → Comes phase p between → q ≡ p
      → DeliversPart storages (receivers_after phase node members) between q new → HasBegun storages old node members new
  broken_by phase p q between new before from part = record {
    phase = phase;
    first = p;
    between = between;
    comes = before;
    delivers = subst (λ k. DeliversPart storages (receivers_after phase node members) between k new) from part;
  }

-- ---- its second half: the accepts come to the members, and their votes to the node
module _ {S : Type 0} (storages : Ghosts (Script S)) (node : ℕ) (members : List ℕ) (p q n : ℕ) (now between new : WorldState S)
    (from : q ≡ n) (to : n ≡ length now.frames) (delivers : DeliversTo storages members now p n between) where
  voted_there : (old : WorldState S) → ComesThrough storages old node members answered p now
      → ComesThrough storages old node members voted n between
  voted_there old comes = voted_by storages old node members p p n now between comes refl delivers to

  pub decides_by : (r : Result (Option ℕ) WorldFault) (last : ℕ) → last ≡ length between.frames
      → IfOk r (λ stopped. MatchOption stopped (DeliversTo storages (node ∷ []) between q last new)
      (λ m. GoesDownOn storages (node ∷ []) between q m new))
      → IfOk r (λ stopped. MatchOption stopped ((last_ : ℕ) × GoesOn storages node members answered p now heard last_ new)
      (λ down. GoesToItsEnd storages node members answered p now (Stopped down) new))
  decides_by (Err f) last at h = tt
  decides_by (Ok None) last at h =
      (last, λ old comes. heard_by storages old node members n q last between new (voted_there old comes) from h at)
  decides_by (Ok (Some m)) last at h = λ old comes. down_by storages old node members voted n q m between new (voted_there old comes) from h

  pub decides_in_part : (r : Result (Option ℕ) WorldFault) → OnErr r (DeliversPart storages (node ∷ []) between q new)
      → OnErr r (RoundBreaksOff storages node members answered p now new)
  decides_in_part (Ok stopped) h = tt
  decides_in_part (Err f) h = λ old comes. broken_by storages old node members voted n q between new (voted_there old comes) from h

-- ---- of members that can meet
module _ {S : Type 0} (storages : Ghosts (Script S)) (old : WorldState S) (node : ℕ) (members : List ℕ) where
  meets : (end : RoundEnd) (new : WorldState S) → CanMeet old node members → MeetingEnds storages old node members end new
      → RoundEndsIn storages old node members end new
  meets NotAQuorum new can h = absurd h
  meets (Down m) new can h = absurd h
  meets (Behind m) new can h = absurd h
  meets (Refused f) new can h = (can, h)
  meets (Stopped m) new can h = (can, h)
  meets (TooLow greatest) new can h = (can, h)
  meets (Decided slot) new can h = (can, h)

  pub meeting_ends : (r : Result RoundEnd WorldFault) (new : WorldState S) → CanMeet old node members
      → IfOk r (λ end. MeetingEnds storages old node members end new) → IfOk r (λ end. RoundEndsIn storages old node members end new)
  meeting_ends (Ok end) new can h = meets end new can h
  meeting_ends (Err f) new can h = h

  meets_in_part : (new : WorldState S) → CanMeet old node members → RoundIsInterrupted storages old node members new
      → IsPartOfRound storages old node members new
  meets_in_part new can (inl same) = none same
  meets_in_part new can (inr begun_) = some can begun_

  pub meeting_breaks : (r : Result RoundEnd WorldFault) (new : WorldState S) → CanMeet old node members
      → OnErr r (RoundIsInterrupted storages old node members new) → OnErr r (IsPartOfRound storages old node members new)
  meeting_breaks (Ok end) new can h = h
  meeting_breaks (Err f) new can h = meets_in_part new can h
