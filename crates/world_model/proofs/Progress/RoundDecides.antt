-- A round that comes through all its phases decides: its node has learnt what its slot holds.
use Rattle.std.proofs.Common.{◌≡◌, inl, inr, ℕ, zero, ◌-◌, ◌<◌, ◌≤◌, List, [], ◌∷◌, ◌++◌, length, drop, slice_get, Contains, true, Option}
use Rattle.std.proofs.Common.{Some, None, IsSome, Result, Ok, Err, refl, sym, ap, subst, ◌∙◌, arith}
use Rattle.std.specs.Prelude.{is_ok}
use Rattle.std.proofs.Math.Seq.{drop-append_seam}
use Rattle.std.proofs.lemmas.Bool.{cases_lt}
use Rattle.std.proofs.lemmas.List.{append_assoc}
use Rattle.std.proofs.lemmas.List.Elements.{All-contains}
use Rattle.synod.specs.Majorities.{IsMajority}
use Rattle.synod.specs.declared.ballot.Ballot.{Ballot}
use Rattle.synod.specs.declared.slot.TheConstants.{SLOTS}
use Rattle.synod.specs.declared.vote.Vote.{Vote}
use Rattle.stable.specs.Script.{Script}
use Rattle.stable.specs.declared.stable.Stable.{Ghosts}
use Rattle.sessions.specs.declared.command.Command.{Command}
use Rattle.acceptor.specs.Accepting.{Accepting, Verdict, refusing, if_taken, after_prepare}
use Rattle.acceptor.proofs.VerdictLemmas.{taken_where, floor_prepared}
use Rattle.learner.specs.Learning.{Learning, prefix, first_unlearnt}
use Rattle.learner.proofs.PrefixLemmas.{prefix_is}
use Rattle.proposer.specs.Proposing.{next_round}
use Rattle.wire.specs.NodeSets.{no_nodes}
use Rattle.wire.specs.declared.frames.envelope.Envelope.{Envelope}
use Rattle.wire.specs.declared.frames.message.Message.TheVariants.{Prepare, Accept}
use Rattle.node_model.specs.Loading.{IsReplicaOf}
use Rattle.node_model.specs.Replicas.{ReplicaState, position, promised, IsNextBallot}
use Rattle.node_model.specs.Nodes.{NodeState, NodeSteps}
use Rattle.node_model.specs.Outputs.{Response}
use Rattle.node_model.specs.Sending.{to_all}
use Rattle.node_model.specs.Taking.{TakesTimeout}
use Rattle.node_model.specs.declared.fault.NodeFault.{NodeFault}
use Rattle.node_model.specs.declared.input.Input.{Input}
use Rattle.node_model.specs.declared.input.Input.TheVariants as input
use Rattle.world_model.specs.Progress.{replica_in, replica_at}
use Rattle.world_model.specs.Rounds.{IsQuorum, NoneRefuses, refusal_in, begun, asked, answered, voted, heard, ComesThrough, begins, asks}
use Rattle.world_model.specs.Rounds.{answers}
use Rattle.world_model.specs.Rounds.{votes, hears}
use Rattle.world_model.specs.Worlds.{WorldState, TakesAt, recorded, with_node}
use Rattle.world_model.proofs.Progress.Handing.{TookAt, HandsOn, hands_all, hands_apart, frames_more, same_or_not, took_of, AreMembers, same_replica}
use Rattle.world_model.proofs.Progress.Handing.{stays_up, stay_members, hands_members}
use Rattle.world_model.proofs.Progress.Hearing.{HasHeard, none_heard, heard_all}
use Rattle.world_model.proofs.Progress.Leading.{Gathers, timeout_gathers, timeout_asks}
use Rattle.world_model.proofs.Progress.RoundAsked.{IsAnswer, promises, declines, AskedBelow, asked_below, asked_replica, answer_of_each, MaySpeak}
use Rattle.world_model.proofs.Progress.RoundAnswered.{HasAsked, has_asked}
use Rattle.world_model.proofs.Progress.RoundVoted.{Votes, LearnsAs, voted_below, learns_no_more}
use Rattle.world_model.proofs.Progress.RoundHeard.{heard_up_to, Knows, knows_still}

-- ---- the node begins its campaign
module _ {S : Type 0} (storages : Ghosts (Script S)) (old : WorldState S) (node : ℕ) (i : Input) where
  took_input : (before after : NodeState (Script S)) (m : ReplicaState) (r : Result Response NodeFault) (new : WorldState S)
      → slice_get old.nodes node ≡ Some before → before.up ≡ Some m → NodeSteps storages before i r after → true ≡ is_ok r
      → new ≡ recorded (with_node old node after) node r → TookAt old node i new
  took_input before after m (Ok said) new here up steps taken leaves =
      took_of storages old node i before after m said new here up steps leaves
  took_input before after m (Err f) new here up steps taken leaves = absurd (cc)

  -- a node that is up has taken the input
  pub took_taken : (new : WorldState S) (m : ReplicaState) → replica_at old node ≡ Some m → TakesAt storages old node i true new
      → TookAt old node i new
  took_taken new m here h =
      took_input h.before h.after m h.result new h.here
      (sym (ap (λ (o : Option (NodeState (Script S))). replica_in o) h.here) ∙ here) h.steps h.taken_ h.leaves

-- ---- the position of a node, in the log
of_none : (learnt : ℕ → Option Command) (s : ℕ) → first_unlearnt learnt s zero ≡ s
unfolding first_unlearnt
of_none learnt s = refl

-- a learner that keeps no slot is at its first
beyond : (l : Learning) → SLOTS < l.first → l.first ≤ prefix l
unfolding prefix
beyond l far =
    let none : SLOTS - l.first ≡ 0 = omega (arith, far) in
    let same : first_unlearnt l.learnt l.first (SLOTS - l.first) ≡ l.first =
    ap (λ (n : ℕ). first_unlearnt l.learnt l.first n) none ∙ of_none l.learnt l.first in
    omega (arith, same)

none_of : {A : Type 0} (o : Option A) → (IsSome o → ⊥) → o ≡ None
none_of None h = refl
none_of (Some a) h = absurd (h refl)

pub record IsFree (l : Learning) (slot : ℕ) : Type 0 where
  pub kept : l.first ≤ slot
  pub unlearnt : l.learnt slot ≡ None

-- a position in the log is kept, and isn't learnt
pub free_at : (l : Learning) → prefix l < SLOTS → IsFree l (prefix l)
free_at l in_log = elim (cases_lt SLOTS l.first) [
  | inl far ↦ let more = beyond l far in absurd (omega (arith, more, far, in_log))
  | inr within ↦
      let p = prefix_is l within in
      record { kept = p.learnt_to.from; unlearnt = none_of (l.learnt (prefix l)) (p.here in_log) }
]

-- ---- what is known when a round begins
pub record Facts {S : Type 0} (old : WorldState S) (node : ℕ) (members : List ℕ) (slot : ℕ) (ballot : Ballot) (replica : ReplicaState) : Type 0 where
  pub here : replica_at old node ≡ Some replica
  pub at : slot ≡ position replica
  pub in_log : slot < SLOTS
  pub next : IsNextBallot replica ballot
  pub quorum : IsQuorum (length old.nodes) node members
  pub up : (m : ℕ) → Contains members m → IsSome (replica_at old m)
  pub few : length old.nodes ≤ 7
  pub there : (j : ℕ) (m : ReplicaState) → replica_at old j ≡ Some m → j < length old.nodes
  pub known : AreMembers (length old.nodes) old
  pub level : MaySpeak old members slot
  pub unheard : (a : ℕ) → a < length old.nodes → replica.learner.heard slot ballot a ≡ None
  pub of_run : (j : ℕ) (m : ReplicaState) → replica_at old j ≡ Some m → (s : ℕ) (v : Vote Command) → m.acceptor.vote s ≡ Some v
      → v.ballot.node < length old.nodes

module _ {S : Type 0} (storages : Ghosts (Script S)) (old : WorldState S) (node : ℕ) (members : List ℕ) (slot : ℕ) (ballot : Ballot)
    (replica : ReplicaState) (facts : Facts old node members slot ballot replica) where
  abbrev nodes : ℕ
  nodes = length old.nodes

  pub node_there : node < nodes
  node_there = facts.there node replica facts.here

  pub owner_there : ballot.node < nodes
  owner_there =
      let is = facts.known node replica facts.here in
      subst (λ (i : ℕ). i < nodes) (sym (facts.next.own ∙ is.number)) node_there

  some_of : {A : Type 0} (o : Option A) → IsSome o → (a : A) × (o ≡ Some a)
  some_of None h = absurd (cc)
  some_of (Some a) h = (a, refl)

  pub member_there : (m : ℕ) → Contains members m → m < nodes
  member_there m among = let up = some_of (replica_at old m) (facts.up m among) in facts.there m up.0 up.1

  -- ---- begun
  pub record IsBegun (first : ℕ) (w : WorldState S) : Type 0 where
    pub replica_then : ReplicaState
    pub here : replica_at w node ≡ Some replica_then
    pub gathers : Gathers ballot slot replica_then no_nodes
    pub learner : replica_then.learner ≡ replica.learner
    pub prepares : drop first w.frames ≡ to_all node nodes (Prepare ballot slot)
    pub known : AreMembers nodes w
    pub up : (j : ℕ) → IsSome (replica_at old j) → IsSome (replica_at w j)
    pub acceptor : (j : ℕ) (m : ReplicaState) → replica_at w j ≡ Some m → (x : ReplicaState) × (replica_at old j ≡ Some x) × (m.acceptor ≡ x.acceptor)

  begun_so : (w : WorldState S) → TookAt old node input.Timeout w → IsBegun (length old.frames) w
  begun_so w took =
      let same : took.replica ≡ replica = same_replica took.replica replica (sym took.here ∙ facts.here) in
      let is : IsReplicaOf node nodes took.replica = facts.known node took.replica took.here in
      let t : TakesTimeout took.replica took.replica_then took.said = took.takes in
      let at : slot ≡ position took.replica = facts.at ∙ ap (λ (m : ReplicaState). position m) (sym same) in
      let own : ballot.node ≡ took.replica.proposer.id =
      facts.next.own ∙ (ap (λ (m : ReplicaState). m.id) (sym same) ∙ (is.number ∙ sym is.proposer.0)) in
      let round = facts.next.round ∙ ap (λ (m : ReplicaState). next_round m.proposer) (sym same) in
      record {
        replica_then = took.replica_then;
        here = took.here_then;
        gathers = subst (λ (s : ℕ). Gathers ballot s took.replica_then no_nodes) (sym at)
            (timeout_gathers took.replica took.replica_then took.said ballot t (subst (λ (s : ℕ). s < SLOTS) at facts.in_log) round own);
        learner = ap (λ (m : ReplicaState). m.learner) t.2 ∙ ap (λ (m : ReplicaState). m.learner) same;
        prepares = ap (λ (fs : List Envelope). drop (length old.frames) fs) took.frames_
            ∙ (drop-append_seam old.frames took.said.sends
            ∙ (ap (λ (r : Response). r.sends) (timeout_asks took.replica took.replica_then took.said ballot t round own)
            ∙ (ap (λ (k : ℕ). to_all k took.replica.nodes (Prepare ballot (position took.replica))) is.number
            ∙ (ap (λ (n : ℕ). to_all node n (Prepare ballot (position took.replica))) is.of_all
            ∙ ap (λ (s : ℕ). to_all node nodes (Prepare ballot s)) (sym at)))));
        known = stay_members nodes old node input.Timeout w took facts.known;
        up = stays_up old node input.Timeout w took;
        acceptor = λ j m here. elim (same_or_not j node) [
          | inl own_ ↦
              let this : took.replica_then ≡ m =
              same_replica took.replica_then m (sym took.here_then ∙ (ap (λ (k : ℕ). replica_at w k) (sym own_) ∙ here)) in (
                took.replica,
                ap (λ (k : ℕ). replica_at old k) own_ ∙ took.here,
                ap (λ (x : ReplicaState). x.acceptor) (sym this) ∙ ap (λ (x : ReplicaState). x.acceptor) t.2,
              )
          | inr other ↦ (m, sym (took.others j other) ∙ here, refl)
        ];
      }

  pub begun_lem : (first : ℕ) (w : WorldState S) → ComesThrough storages old node members begun first w → IsBegun first w
  begun_lem _ w (begins w_ takes) = begun_so w (took_taken storages old node input.Timeout w replica facts.here takes)

  -- it changes no floor
  begun_level : (first : ℕ) (w : WorldState S) → IsBegun first w → MaySpeak w members slot
  begun_level first w h j m among here =
      let before = h.acceptor j m here in
      subst (λ (a : Accepting). a.floor ≤ slot) (sym before.2) (facts.level j before.0 among before.1)

  -- ---- asked
  pub record IsAsked (first : ℕ) (w : WorldState S) : Type 0 where
    pub before : ℕ
    pub between : WorldState S
    pub begun_ : IsBegun before between
    pub below : AskedBelow between nodes node members ballot slot nodes w
    pub answers_ : drop first w.frames ≡ below.answers
    pub known : AreMembers nodes w

  -- what was sent since is what comes behind it
  sent_since : (w new : WorldState S) (es : List Envelope) → new.frames ≡ w.frames ++ es → drop (length w.frames) new.frames ≡ es
  sent_since w new es e = ap (λ (fs : List Envelope). drop (length w.frames) fs) e ∙ drop-append_seam w.frames es

  pub asked_lem : (first : ℕ) (w : WorldState S) → ComesThrough storages old node members asked first w → IsAsked first w
  asked_lem _ w (asks first between w_ comes delivers) =
      let b = begun_lem first between comes in
      let hands = subst (λ (es : List Envelope). HandsOn members es between w) b.prepares
      (hands_all storages members between first w delivers) in
      let below = asked_below between nodes node members ballot slot node_there owner_there b.known (begun_level first between b) nodes w
      hands in
      record {
        before = first;
        between = between;
        begun_ = b;
        below = below;
        answers_ = sent_since between w below.answers below.frames_;
        known = hands_members nodes members (to_all node nodes (Prepare ballot slot)) between w hands b.known;
      }

  -- ---- answered
  -- what a member holds that has been asked
  asked_gathers : (m : ReplicaState) → Gathers ballot slot m no_nodes → Gathers ballot slot (asked_replica m ballot slot) no_nodes
  asked_gathers m g = record {
    campaign = g.campaign;
    here = g.here;
    ballot_ = g.ballot_;
    first = g.first;
    within = g.within;
    none_open = g.none_open;
    gathers = g.gathers;
    counted = g.counted;
    too_few = g.too_few;
  }

  -- whose answer is no refusal was willing
  willing_one : (m : ReplicaState) (j : ℕ) (e : Envelope) → IsAnswer node ballot slot j m e → refusal_in e.message ≡ None
      → refusing m.acceptor.promise ballot ≡ None
  willing_one m j e (promises p same none tells) quiet = none
  willing_one m j e (declines g same some) quiet =
      let never : Some g ≡ None = sym (ap (λ (x : Envelope). refusal_in x.message) same) ∙ quiet in absurd cc

  -- the member's promise is the ballot then, where it is willing
  has_promised : (a : Accepting) → a.floor ≤ slot → refusing a.promise ballot ≡ None → (after_prepare a ballot slot).promise ≡ Some ballot
  has_promised a level none =
      ap (λ (v : Verdict). (if_taken v (record a { promise = Some ballot }) a).promise) (taken_where a ballot slot level none)

  abbrev IsWilling : WorldState S → Type 0
  IsWilling w = (j : ℕ) (m : ReplicaState) → Contains members j → replica_at w j ≡ Some m → refusing m.acceptor.promise ballot ≡ None

  willing : (first : ℕ) (w : WorldState S) (h : IsAsked first w) → NoneRefuses (drop first w.frames) → IsWilling h.between
  willing first w h none j m among here =
      let one = answer_of_each h.between nodes node members ballot slot nodes h.below.answers h.below.are j m
      (member_there j among) among here in
      willing_one m j one.envelope one.is (All-contains (λ (e : Envelope). refusal_in e.message ≡ None)
      (drop first w.frames) one.envelope none
      (subst (λ (es : List Envelope). Contains es one.envelope) (sym h.answers_) one.among))

  voted_of_run : (first : ℕ) (w : WorldState S) → IsBegun first w → (j : ℕ) (m : ReplicaState) → replica_at w j ≡ Some m → (s : ℕ) (v : Vote Command)
      → m.acceptor.vote s ≡ Some v → v.ballot.node < nodes
  voted_of_run first w h j m here s v vote =
      let before = h.acceptor j m here in
      facts.of_run j before.0 before.1 s v (sym (ap (λ (a : Accepting). a.vote s) before.2) ∙ vote)

  pub record IsLed (first : ℕ) (w : WorldState S) : Type 0 where
    pub before : ℕ
    pub between : WorldState S
    pub asked_ : IsAsked before between
    pub willing_ : IsWilling asked_.between
    pub replica_before : ReplicaState
    pub here_before : replica_at between node ≡ Some (asked_replica replica_before ballot slot)
    pub learning_before : replica_before.learner ≡ replica.learner
    pub has_asked_ : HasAsked asked_.between between nodes node members ballot slot (asked_replica replica_before ballot slot) w
    pub accepts : drop first w.frames ≡ has_asked_.sends
    pub known : AreMembers nodes w

  led_so : (first : ℕ) (between w : WorldState S) (a : IsAsked first between) → NoneRefuses (drop first between.frames)
      → HandsOn (node ∷ []) a.below.answers between w → IsLed (length between.frames) w
  led_so first between w a none hands =
      let m : ReplicaState = a.begun_.replica_then in
      let here : replica_at between node ≡ Some (asked_replica m ballot slot) =
      a.below.members_ node m node_there facts.quorum.own a.begun_.here in
      let will = willing first between a none in
      let free : IsFree replica.learner slot = subst (λ (s : ℕ). IsFree replica.learner s) (sym facts.at)
      (free_at replica.learner (subst (λ (s : ℕ). s < SLOTS) facts.at facts.in_log)) in
      let h = has_asked a.between between nodes node members ballot slot (asked_replica m ballot slot) node_there owner_there facts.few
      (facts.at ∙ ap (λ (l : Learning). prefix l) (sym a.begun_.learner)) facts.in_log
      (ap (λ (l : Learning). l.learnt slot) a.begun_.learner ∙ free.unlearnt) will (voted_of_run a.before a.between a.begun_) here
      (a.known node (asked_replica m ballot slot) here) (asked_gathers m a.begun_.gathers) a.below.answers a.below.are facts.quorum.most
      facts.quorum.none_twice member_there w hands in
      record {
        before = first;
        between = between;
        asked_ = a;
        willing_ = will;
        replica_before = m;
        here_before = here;
        learning_before = a.begun_.learner;
        has_asked_ = h;
        accepts = sent_since between w h.sends h.frames_;
        known = hands_members nodes (node ∷ []) a.below.answers between w hands a.known;
      }

  pub led_lem : (first : ℕ) (w : WorldState S) → ComesThrough storages old node members answered first w → IsLed first w
  led_lem _ w (answers first between w_ comes none delivers) =
      let a = asked_lem first between comes in
      led_so first between w a none (subst (λ (es : List Envelope). HandsOn (node ∷ []) es between w) a.answers_
      (hands_all storages (node ∷ []) between first w delivers))

  -- ---- voted
  abbrev vote_for : Command → Vote Command
  vote_for c = record { slot = slot; ballot = ballot; command = c }

  pub record AreVoted (first : ℕ) (w : WorldState S) : Type 0 where
    pub before : ℕ
    pub between : WorldState S
    pub led : IsLed before between
    pub command : Command
    pub votes_ : List Envelope
    pub are : Votes between nodes node members (vote_for command) nodes votes_
    pub more : List Envelope
    pub told : drop first w.frames ≡ votes_ ++ more
    pub learns : LearnsAs between nodes node members (vote_for command) replica w

  -- what a member's acceptor holds is what it held once the prepare had come
  record HoldsAsked (between : WorldState S) (j : ℕ) (a : Accepting) : Type 0 where
    replica_asked : ReplicaState
    here_asked : replica_at between j ≡ Some replica_asked
    is : a ≡ after_prepare replica_asked.acceptor ballot slot

  holds_asked : (first : ℕ) (w : WorldState S) (h : IsLed first w) → (j : ℕ) (m : ReplicaState) → Contains members j → replica_at w j ≡ Some m
      → HoldsAsked h.asked_.between j m.acceptor
  holds_asked first w h j m among here =
      let a = h.asked_ in
      let member = some_of (replica_at a.between j) (a.begun_.up j (facts.up j among)) in
      let asked_then : replica_at h.between j ≡ Some (asked_replica member.0 ballot slot) =
      a.below.members_ j member.0 (member_there j among) among member.1 in
      record {
        replica_asked = member.0;
        here_asked = member.1;
        is = elim (same_or_not j node) [
          | inl own ↦
              let this : h.has_asked_.replica_then ≡ m =
              same_replica h.has_asked_.replica_then m (sym h.has_asked_.here_then ∙ (ap (λ (k : ℕ). replica_at w k) (sym own) ∙ here)) in
              let same : asked_replica h.replica_before ballot slot ≡ asked_replica member.0 ballot slot =
              same_replica (asked_replica h.replica_before ballot slot) (asked_replica member.0 ballot slot)
              (sym h.here_before ∙ (ap (λ (k : ℕ). replica_at h.between k) (sym own) ∙ asked_then)) in
              ap (λ (x : ReplicaState). x.acceptor) (sym this) ∙ (h.has_asked_.acceptor ∙ ap (λ (x : ReplicaState). x.acceptor) same)
          | inr other ↦
              let this : asked_replica member.0 ballot slot ≡ m =
              same_replica (asked_replica member.0 ballot slot) m (sym asked_then ∙ (sym (h.has_asked_.others j other) ∙ here)) in
              ap (λ (x : ReplicaState). x.acceptor) (sym this)
        ];
      }

  -- the member might speak of the slot then
  level_asked : (first : ℕ) (w : WorldState S) (h : IsLed first w) → (j : ℕ) (m : ReplicaState) → Contains members j
      → replica_at h.asked_.between j ≡ Some m → m.acceptor.floor ≤ slot
  level_asked first w h j m among here = begun_level h.asked_.before h.asked_.between h.asked_.begun_ j m among here

  -- it has promised the ballot, and no other since
  holds_promise : (first : ℕ) (w : WorldState S) (h : IsLed first w) → (j : ℕ) (m : ReplicaState) → Contains members j → replica_at w j ≡ Some m
      → promised m ≡ Some ballot
  holds_promise first w h j m among here =
      let x = holds_asked first w h j m among here in
      ap (λ (a : Accepting). a.promise) x.is
      ∙ has_promised x.replica_asked.acceptor (level_asked first w h j x.replica_asked among x.here_asked)
      (h.willing_ j x.replica_asked among x.here_asked)

  -- and may still speak of the slot
  led_level : (first : ℕ) (w : WorldState S) → IsLed first w → MaySpeak w members slot
  led_level first w h j m among here =
      let x = holds_asked first w h j m among here in
      let level = level_asked first w h j x.replica_asked among x.here_asked in
      let same = ap (λ (a : Accepting). a.floor) x.is ∙ floor_prepared x.replica_asked.acceptor ballot slot in
      omega (arith, level, same)

  voted_so : (first : ℕ) (between w : WorldState S) (h : IsLed first between)
      → HandsOn members h.has_asked_.sends between w → AreVoted (length between.frames) w
  voted_so first between w h hands =
      let asks_ = h.has_asked_.asks in
      let v : Vote Command = vote_for asks_.command in
      let two = hands_apart members (to_all node nodes (Accept v)) asks_.more between w
      (subst (λ (es : List Envelope). HandsOn members es between w) asks_.are hands) in
      let below = voted_below between nodes node members v node_there owner_there h.known (led_level first between h)
      (holds_promise first between h)
      h.has_asked_.replica_then h.has_asked_.here_then nodes two.mid two.first in
      let rest = frames_more members asks_.more two.mid w two.then in
      let now = learns_no_more between nodes node members v h.has_asked_.replica_then asks_.more asks_.votes two.mid w two.then below.learns in
      record {
        before = first;
        between = between;
        led = h;
        command = asks_.command;
        votes_ = below.votes;
        are = below.are;
        more = rest.0;
        told = sent_since between w (below.votes ++ rest.0)
            (rest.1 ∙ (ap (λ (fs : List Envelope). fs ++ rest.0) below.frames_ ∙ append_assoc between.frames below.votes rest.0));
        learns = record {
          replica_then = now.replica_then;
          here = now.here;
          is = now.is;
          learner = now.learner ∙ (h.has_asked_.learner ∙ h.learning_before);
        };
      }

  pub voted_lem : (first : ℕ) (w : WorldState S) → ComesThrough storages old node members voted first w → AreVoted first w
  voted_lem _ w (votes first between w_ comes delivers) =
      let h = led_lem first between comes in
      voted_so first between w h (subst (λ (es : List Envelope). HandsOn members es between w) h.accepts
      (hands_all storages members between first w delivers))

  -- ---- heard
  heard_so : (first : ℕ) (between w : WorldState S) (h : AreVoted first between)
      → HandsOn (node ∷ []) (h.votes_ ++ h.more) between w → Knows node slot h.command w
  heard_so first between w h hands =
      let v : Vote Command = vote_for h.command in
      let two = hands_apart (node ∷ []) h.votes_ h.more between w hands in
      let l : Learning = h.learns.replica_then.learner in
      let same : replica.learner ≡ l = sym h.learns.learner in
      let free : IsFree l slot = subst (λ (x : Learning). IsFree x slot) same (subst (λ (s : ℕ). IsFree replica.learner s) (sym facts.at)
      (free_at replica.learner (subst (λ (s : ℕ). s < SLOTS) facts.at facts.in_log))) in
      let none : (a : ℕ) → a < l.nodes → l.heard slot ballot a ≡ None =
      λ a less. ap (λ (x : Learning). x.heard slot ballot a) h.learns.learner ∙ facts.unheard a
      (subst (λ (n : ℕ). a < n) h.learns.is.learner less) in
      let up_to = heard_up_to between nodes node members v h.between owner_there node_there
      (record {
        replica = h.learns.replica_then;
        here = h.learns.here;
        is = h.learns.is;
        heard = inr (none_heard l slot ballot h.command members free.kept free.unlearnt none);
      }) nodes h.votes_ h.are (omega arith) two.mid two.first in
      let all : up_to.replica.learner.nodes ≡ nodes = up_to.is.learner in
      let learnt : up_to.replica.learner.learnt slot ≡ Some h.command =
      heard_all up_to.replica.learner slot ballot h.command members
      (subst (λ (n : ℕ). IsMajority n (length members)) (sym all) facts.quorum.most) facts.quorum.none_twice
      (λ a among. subst (λ (n : ℕ). a < n) (sym all) (member_there a among))
      (subst (λ (n : ℕ). HasHeard up_to.replica.learner slot ballot h.command members n) (sym all) up_to.heard) in
      knows_still node slot h.command (node ∷ []) h.more two.mid w two.then
      (record { replica = up_to.replica; here = up_to.here; learnt = learnt })

  -- a round that comes through all phases decides
  pub decides : (first : ℕ) (w : WorldState S) → ComesThrough storages old node members heard first w
      → (c : Command) × Knows node slot c w
  decides _ w (hears first between w_ comes delivers) =
      let h = voted_lem first between comes in (
        h.command,
        heard_so first between w h (subst (λ (es : List Envelope). HandsOn (node ∷ []) es between w) h.told
            (hands_all storages (node ∷ []) between first w delivers)),
      )
