-- What a round comes to: what it tells is so, and which end it has where nothing disturbs it.
use Rattle.std.proofs.Common.{◌≡◌, ◌⊎◌, inl, inr, ℕ, ◌^◌, ◌<◌, List, [], ◌∷◌, ◌++◌, drop, slice_get, slice_set, Contains, Bool, true, false}
use Rattle.std.proofs.Common.{Option, Some, None, IsSome, IfSome, MatchBool, Result, Ok, Err, refl, sym, ap, subst, ◌∙◌, arith}
use Rattle.std.specs.Prelude.{is_some, nat_lt, nat_le}
use Rattle.std.proofs.lemmas.Bool.{cases_Bool}
use Rattle.std.proofs.lemmas.Option.{same_Some}
use Rattle.synod.specs.Ballots.{rank}
use Rattle.synod.specs.declared.ballot.Ballot.{Ballot}
use Rattle.synod.specs.declared.slot.TheConstants.{SLOTS}
use Rattle.stable.specs.Script.{Script}
use Rattle.stable.specs.declared.stable.Stable.{Ghosts}
use Rattle.acceptor.specs.Accepting.{refusing}
use Rattle.proposer.specs.Proposing.{next_round}
use Rattle.proposer.proofs.Votes.{in_cons, in_none}
use Rattle.wire.specs.declared.frames.envelope.Envelope.{Envelope}
use Rattle.node_model.specs.Faults.{is_stop_fault}
use Rattle.node_model.specs.Replicas.{ReplicaState, position, refuses, is_full, IsNextBallot}
use Rattle.node_model.specs.Nodes.{NodeState, NodeSteps, TakesInput, StopsOnInput, RefusesInput}
use Rattle.node_model.specs.Outputs.{Response}
use Rattle.node_model.specs.declared.fault.NodeFault.{NodeFault}
use Rattle.node_model.specs.declared.fault.NodeFault.TheVariants as fault
use Rattle.node_model.specs.declared.input.Input.{Input}
use Rattle.node_model.specs.declared.input.Input.TheVariants as input
use Rattle.world_model.specs.Progress.{replica_in, replica_at, HasStopped}
use Rattle.world_model.specs.Rounds.{is_up, is_up_node, Phase, begun, asked, answered, voted, heard, receivers_after, ComesThrough, begins}
use Rattle.world_model.specs.Rounds.{asks}
use Rattle.world_model.specs.Rounds.{answers, votes, hears, GoesDown, at_once, on_the_way}
use Rattle.world_model.specs.Worlds.{WorldState, TakesAt, ReceivesAt, DeliversFrame, recorded, with_node, outcome_of, without_wait}
use Rattle.world_model.specs.declared.lists.StepOutcome.{StepOutcome}
use Rattle.world_model.specs.declared.lists.StepOutcome.TheVariants as outcome
use Rattle.world_model.proofs.Progress.Handing.{hands_all, hands_part, part, hands_up, stays_up, set_here}
use Rattle.world_model.proofs.Progress.RoundDecides.{took_taken}

-- ---- who is up
pub up_some : {S : Type 0} (o : Option (NodeState S)) → is_up_node o ≡ true → IsSome (replica_in o)
up_some None e = absurd (cc)
up_some (Some n) e = of_flag n.up e
  where
    of_flag : (o : Option ReplicaState) → is_some o ≡ true → IsSome o
    of_flag None e = absurd (cc)
    of_flag (Some m) e = refl

pub some_of : {A : Type 0} (o : Option A) → IsSome o → (a : A) × (o ≡ Some a)
some_of None h = absurd (cc)
some_of (Some a) h = (a, refl)

-- ---- a promise refuses a lower ballot
pub refused_so : (b : Ballot) (o : Option Ballot) (g : Ballot) → refusing o b ≡ Some g → (o ≡ Some g) × (rank b < rank g)
refused_so b None g e = absurd (cc)
refused_so b (Some p) g e = elim (cases_Bool (nat_lt (rank b) (rank p))) [
  | inl less ↦
      let same : p ≡ g = same_Some p g (sym (rw less refl) ∙ e) in
      (ap (λ (x : Ballot). Some x) same, subst (λ (x : Ballot). rank b < rank x) same (grind (arith, less)))
  | inr not ↦ let never : None ≡ Some g = sym (rw not refl) ∙ e in absurd (cc)
]

pub refuses_above : (b : Ballot) (o : Option Ballot) (g : Ballot) → o ≡ Some g → rank b < rank g → refusing o b ≡ Some g
refuses_above b o g same above =
    let less : nat_lt (rank b) (rank g) ≡ true = grind (arith, above) in
    ap (λ (x : Option Ballot). refusing x b) same ∙ (rw less refl)

-- ---- a campaign that is to begin isn't refused
pub not_refused : (m : ReplicaState) (b : Ballot) (f : NodeFault) → position m < SLOTS → IsNextBallot m b → b.round < 2 ^ 64
    → refuses m input.Timeout ≡ Some f → ⊥
not_refused m b f in_log next left e =
    let open_ : is_full m ≡ false = grind (arith, in_log) in
    let less : next_round m.proposer < 2 ^ 64 = subst (λ (r : ℕ). r < 2 ^ 64) next.round left in
    let some_left : nat_le (2 ^ 64) (next_round m.proposer) ≡ false = above (2 ^ 64) (next_round m.proposer) less in
    let none : refuses m input.Timeout ≡ None = rw open_ (rw some_left refl) in
    let never : None ≡ Some f = sym none ∙ e in absurd (cc)
  where
    above : (k r : ℕ) → r < k → nat_le k r ≡ false
    above k r less = grind (arith, less)

-- one that was taken began in the log
pub taken_in_log : (m : ReplicaState) → ((f : NodeFault) → refuses m input.Timeout ≡ Some f → ⊥) → position m < SLOTS
taken_in_log m never = elim (cases_Bool (is_full m)) [
  | inl full ↦ absurd (never fault.LogFull (rw full refl))
  | inr open_ ↦ grind (arith, open_)
]

-- ---- a node that goes down tells so
record TellsStop {S : Type 0} (old : WorldState S) (node : ℕ) (new : WorldState S) : Type 0 where
  failure : NodeFault
  kind : (failure ≡ fault.Memory) ⊎ (failure ≡ fault.Device)
  told : new.outcomes ≡ old.outcomes ++ outcome.Stopped node failure ∷ []

module _ {S : Type 0} (storages : Ghosts (Script S)) where
  same_up : (before after : NodeState (Script S)) (m : ReplicaState) → after ≡ before → before.up ≡ Some m → is_some after.up ≡ false → ⊥
  same_up before after m same up down =
      let stays : is_some after.up ≡ true = ap (λ (n : NodeState (Script S)). is_some n.up) same ∙ ap (λ (o : Option ReplicaState). is_some o) up in
      let never : true ≡ false = sym stays ∙ down in absurd (cc)

  kind_of : (before after : NodeState (Script S)) (m : ReplicaState) (i : Input) (f : NodeFault)
      → MatchBool (is_stop_fault f) (StopsOnInput storages before m i f after) (RefusesInput before m i f after) → before.up ≡ Some m
      → is_some after.up ≡ false → (f ≡ fault.Memory) ⊎ (f ≡ fault.Device)
  kind_of before after m i fault.Memory h up down = inl refl
  kind_of before after m i fault.Device h up down = inr refl
  kind_of before after m i fault.Damaged h up down = absurd h.storage
  kind_of before after m i fault.Down h up down = absurd (same_up before after m h.leaves up down)
  kind_of before after m i fault.LogFull h up down = absurd (same_up before after m h.leaves up down)
  kind_of before after m i fault.RoundsUsedUp h up down = absurd (same_up before after m h.leaves up down)
  kind_of before after m i fault.QueueFull h up down = absurd (same_up before after m h.leaves up down)
  kind_of before after m i fault.TooLong h up down = absurd (same_up before after m h.leaves up down)
  kind_of before after m i fault.NothingNew h up down = absurd (same_up before after m h.leaves up down)

  stop_outcome : (node : ℕ) (f : NodeFault) → (f ≡ fault.Memory) ⊎ (f ≡ fault.Device) → outcome_of node f ≡ outcome.Stopped node f
  stop_outcome node f (inl e) = subst (λ (x : NodeFault). outcome_of node x ≡ outcome.Stopped node x) (sym e) refl
  stop_outcome node f (inr e) = subst (λ (x : NodeFault). outcome_of node x ≡ outcome.Stopped node x) (sym e) refl

  up_then : (old new : WorldState S) (node : ℕ) (before after : NodeState (Script S)) → slice_get old.nodes node ≡ Some before
      → new.nodes ≡ slice_set old.nodes node after → is_up new node ≡ is_some after.up
  up_then old new node before after here leaves =
      ap (λ (o : Option (NodeState (Script S))). is_up_node o) (ap (λ (ns : List (NodeState (Script S))). slice_get ns node) leaves
      ∙ set_here old.nodes node before after here)

  stops_so : (old : WorldState S) (node : ℕ) (i : Input) (before after : NodeState (Script S)) (m : ReplicaState) (r : Result Response NodeFault)
      (new : WorldState S) → slice_get old.nodes node ≡ Some before → before.up ≡ Some m → NodeSteps storages before i r after
      → new ≡ recorded (with_node old node after) node r → is_up new node ≡ false → TellsStop old node new
  stops_so old node i before after m (Ok said) new here up steps leaves down =
      let t = subst (λ (o : Option ReplicaState). IfSome o (λ k. TakesInput storages before k i said after)) up steps.taken in
      let stays : is_some after.up ≡ true = ap (λ (n : NodeState (Script S)). is_some n.up) t.leaves in
      let then = up_then old new node before after here (ap (λ (w : WorldState S). w.nodes) leaves) in
      let never : true ≡ false = sym stays ∙ (sym then ∙ down) in absurd (cc)
  stops_so old node i before after m (Err f) new here up steps leaves down =
      let h = subst (λ (o : Option ReplicaState). IfSome o (λ k. MatchBool (is_stop_fault f) (StopsOnInput storages before k i f after)
      (RefusesInput before k i f after))) up steps.refused in
      let then = up_then old new node before after here (ap (λ (w : WorldState S). w.nodes) leaves) in
      let kind = kind_of before after m i f h up (sym then ∙ down) in
      record {
        failure = f;
        kind = kind;
        told = ap (λ (w : WorldState S). w.outcomes) leaves ∙ ap (λ (o : StepOutcome). old.outcomes ++ o ∷ []) (stop_outcome node f kind);
      }

  stops_at : (old : WorldState S) (node : ℕ) (i : Input) (b : Bool) (m : ReplicaState) (new : WorldState S) → replica_at old node ≡ Some m
      → TakesAt storages old node i b new → is_up new node ≡ false → TellsStop old node new
  stops_at old node i b m new here h down =
      stops_so old node i h.before h.after m h.result new h.here
      (sym (ap (λ (o : Option (NodeState (Script S))). replica_in o) h.here) ∙ here) h.steps h.leaves down

  stops_up : (old : WorldState S) (e : Envelope) (new : WorldState S) (o : Option ReplicaState) (m : ReplicaState) (h : ReceivesAt storages old e new)
      → h.receiver.up ≡ o → replica_at old e.to ≡ Some m → is_up new e.to ≡ false → TellsStop old e.to new
  stops_up old e new None m h up here down =
      let never : Some m ≡ None = sym here ∙ (ap (λ (o : Option (NodeState (Script S))). replica_in o) h.here ∙ up) in absurd (cc)
  stops_up old e new (Some x) m h up here down =
      let takes = h.taken (subst (λ (o : Option ReplicaState). IsSome o) (sym up) refl) in
      stops_at old e.to (input.Message e) takes.0 m new here takes.1 down

  -- a receiver that was up goes down on a frame
  stops_on : (old : WorldState S) (k : ℕ) (e : Envelope) (new : WorldState S) → DeliversFrame storages old k new
      → slice_get old.frames k ≡ Some e → IsSome (replica_at old e.to) → is_up new e.to ≡ false → TellsStop old e.to new
  stops_on old k e new h is up down =
      let same : h.frame ≡ e = same_Some h.frame e (sym h.sent ∙ is) in
      subst (λ (f : Envelope). IsSome (replica_at old f.to) → is_up new f.to ≡ false → TellsStop old f.to new) same
      (λ there off.
      let m = some_of (replica_at old h.frame.to) there in
      let t = stops_up (without_wait old k) h.frame new h.receives.receiver.up m.0 h.receives refl m.1 off in
      record { failure = t.failure; kind = t.kind; told = t.told }) up down

-- ---- the members of a round stay up
module _ {S : Type 0} (storages : Ghosts (Script S)) (old : WorldState S) (node : ℕ) (members : List ℕ) (replica : ReplicaState)
    (here : replica_at old node ≡ Some replica) where
  comes_up : (phase : Phase) (first : ℕ) (w : WorldState S) → ComesThrough storages old node members phase first w
      → (j : ℕ) → IsSome (replica_at old j) → IsSome (replica_at w j)
  comes_up _ _ w (begins w_ takes) j up =
      stays_up old node input.Timeout w (took_taken storages old node input.Timeout w replica here takes) j up
  comes_up _ _ w (asks first between w_ comes delivers) j up =
      hands_up members (drop first between.frames) between w (hands_all storages members between first w delivers) j
      (comes_up begun first between comes j up)
  comes_up _ _ w (answers first between w_ comes none delivers) j up =
      hands_up (node ∷ []) (drop first between.frames) between w (hands_all storages (node ∷ []) between first w delivers) j
      (comes_up asked first between comes j up)
  comes_up _ _ w (votes first between w_ comes delivers) j up =
      hands_up members (drop first between.frames) between w (hands_all storages members between first w delivers) j
      (comes_up answered first between comes j up)
  comes_up _ _ w (hears first between w_ comes delivers) j up =
      hands_up (node ∷ []) (drop first between.frames) between w (hands_all storages (node ∷ []) between first w delivers) j
      (comes_up voted first between comes j up)

  module _ (own : Contains members node) (up : (m : ℕ) → Contains members m → IsSome (replica_at old m)) where
    among_them : (m : ℕ) → Contains (node ∷ []) m → Contains members m
    among_them m among = elim (in_cons node m [] among) [
      | inl same ↦ subst (λ (i : ℕ). Contains members i) same own
      | inr never ↦ absurd (in_none m never)
    ]

    is_member_of : (phase : Phase) (m : ℕ) → Contains (receivers_after phase node members) m → Contains members m
    is_member_of begun m among = among
    is_member_of asked m among = among_them m among
    is_member_of answered m among = among
    is_member_of voted m among = among_them m among
    is_member_of heard m among = absurd (in_none m among)

    pub goes_down : (m : ℕ) (new : WorldState S) → GoesDown storages old node members m new → HasStopped new members m
    goes_down m new (at_once fails named) =
        let t = stops_at storages old node input.Timeout false replica new here fails.takes fails.down in
        subst (λ (i : ℕ). HasStopped new members i) (sym named)
        (record { among = own; failure = t.failure; kind = t.kind; before = old.outcomes; told = t.told })
    goes_down m new (on_the_way phase first between comes down) =
        let among = is_member_of phase down.envelope.to down.receiver in
        let there = hands_up (receivers_after phase node members) (part between.frames first down.frame) between down.between
        (hands_part storages (receivers_after phase node members) between first down.frame down.between down.before
        (omega (arith, down.sent)))
        down.envelope.to (comes_up phase first between comes down.envelope.to (up down.envelope.to among)) in
        let t = stops_on storages down.between down.frame down.envelope new down.delivers down.is there
        (subst (λ (i : ℕ). is_up new i ≡ false) down.named down.down) in
        subst (λ (i : ℕ). HasStopped new members i) (sym down.named)
        (record { among = among; failure = t.failure; kind = t.kind; before = down.between.outcomes; told = t.told })
