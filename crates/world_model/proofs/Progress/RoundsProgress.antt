-- What a round comes to, by how it ends: the promise of progress.
use Rattle.std.proofs.Common.{◌≡◌, inl, inr, ℕ, ◌<◌, ◌≤◌, List, [], ◌∷◌, length, drop, slice_get, Contains, true, false, Option, Some, None}
use Rattle.std.proofs.Common.{IsSome, IfSome, Err, refl, sym, ap, subst, ◌∙◌, arith}
use Rattle.std.specs.Prelude.{is_ok}
use Rattle.std.proofs.lemmas.List.Elements.{All-contains}
use Rattle.synod.specs.Ballots.{rank, rank_of}
use Rattle.synod.specs.declared.ballot.Ballot.{Ballot}
use Rattle.synod.specs.declared.slot.TheConstants.{SLOTS}
use Rattle.stable.specs.Records.{Records}
use Rattle.stable.specs.Script.{Script}
use Rattle.stable.specs.declared.stable.Stable.{Ghosts}
use Rattle.acceptor.specs.Accepting.{Accepting}
use Rattle.acceptor.proofs.BallotLemmas.{same_rank}
use Rattle.wire.specs.Promises.{Refused as Refusal}
use Rattle.wire.specs.declared.frames.envelope.Envelope.{Envelope}
use Rattle.wire.specs.declared.frames.message.Message.TheVariants.{Nack}
use Rattle.node_model.specs.Inputs.{names_run, is_of_run}
use Rattle.node_model.specs.Replicas.{ReplicaState, position, promised, refuses, learnt_in, IsNextBallot}
use Rattle.node_model.specs.Nodes.{NodeState}
use Rattle.node_model.specs.Taking.{TakesTimeout}
use Rattle.proposer.specs.Proposing.{next_round}
use Rattle.node_model.specs.declared.fault.NodeFault.{NodeFault}
use Rattle.node_model.specs.declared.input.Input.TheVariants as input
use Rattle.world_model.specs.Memberships.{IsMembership}
use Rattle.world_model.specs.Progress.{replica_in, replica_at, IsUndisturbed, NoneAbove, IsGreatestAbove, NodeHasLearnt, IsAbove, HasStopped, Progresses}
use Rattle.world_model.specs.Progress.{MakesProgress}
use Rattle.world_model.specs.Rounds.{is_up, IsBehind, CanMeet, RefusesToBegin, IsGreatestTold, refusal_in}
use Rattle.world_model.specs.Rounds.{Phase, begun, asked, answered, voted, heard}
use Rattle.world_model.specs.Rounds.{ComesThrough, begins, asks, answers, votes, hears, RoundIsRefused, SlotIsDecided, RoundEndsIn, RoundEnds}
use Rattle.world_model.specs.Safety.{WorldInvariant}
use Rattle.world_model.specs.Worlds.{WorldState, TakesAt}
use Rattle.world_model.specs.declared.round_end.RoundEnd.{RoundEnd}
use Rattle.world_model.specs.declared.round_end.RoundEnd.TheVariants.{NotAQuorum, Down, Behind, Refused, Stopped, TooLow, Decided}
use Rattle.world_model.proofs.Progress.Handing.{hands_all, same_replica}
use Rattle.world_model.proofs.Progress.RefusedGrows.{told_among, above_told}
use Rattle.world_model.proofs.Progress.RoundAsked.{is_below, both, IsAnswer, promises, declines, answer_of_one, answer_of_each}
use Rattle.world_model.proofs.Progress.RoundDecides.{Facts, took_taken, IsAsked, asked_lem, AreVoted, voted_lem, decides, owner_there}
use Rattle.world_model.proofs.Refinement.OfTheRun.{votes_of_run, promise_of_run}
use Rattle.world_model.proofs.Progress.RoundPremises.{is_member, unheard_next}
use Rattle.world_model.proofs.Progress.RoundProgress.{up_some, some_of, refused_so, refuses_above, not_refused, taken_in_log, goes_down}

is_there : {A : Type 0} (o : Option A) (a : A) → o ≡ Some a → IsSome o
is_there None a e = absurd (cc)
is_there (Some b) a e = refl

module _ {S : Type 0} (storages : Ghosts (Script S)) (contents : Script S → Records) (old : WorldState S)
    (membership : IsMembership old.nodes old.frames) (sound : WorldInvariant contents old) (node : ℕ) (members : List ℕ) where
  pub facts_of : (replica : ReplicaState) (slot : ℕ) (ballot : Ballot) → replica_at old node ≡ Some replica → slot ≡ position replica → slot < SLOTS
      → IsNextBallot replica ballot → CanMeet old node members → Facts old node members slot ballot replica
  facts_of replica slot ballot here at in_log next meets = record {
    here = here;
    at = at;
    in_log = in_log;
    next = next;
    quorum = meets.quorum;
    up = λ m among. up_some (slice_get old.nodes m) (meets.up m among);
    few = membership.few;
    there = λ j m e. (is_member contents old membership sound j m e).0;
    level = λ j m among there. subst (λ (s : ℕ). m.acceptor.floor ≤ s) (sym at) (meets.level replica m j among here there);
    known = λ j m e. (is_member contents old membership sound j m e).1;
    unheard = λ a less. unheard_next contents old membership sound node replica here ballot next slot a less;
    of_run = λ j m e. votes_of_run contents old sound.allowed membership j m e;
  }

  -- ---- a campaign that has begun
  record Begins (replica : ReplicaState) : Type 0 where
    in_log : position replica < SLOTS
    ballot : Ballot
    next : IsNextBallot replica ballot

  not_refused_here : (w : WorldState S) (replica : ReplicaState) → replica_at old node ≡ Some replica → TakesAt storages old node input.Timeout true w
      → (f : NodeFault) → refuses replica input.Timeout ≡ Some f → ⊥
  not_refused_here w replica here h f refused =
      let up : h.before.up ≡ Some replica = sym (ap (λ (o : Option (NodeState (Script S))). replica_in o) h.here) ∙ here in
      let all = subst (λ (o : Option ReplicaState). IfSome o (λ m. IfSome (refuses m input.Timeout) (λ g. h.result ≡ Err g))) up h.steps.refuses_ in
      let failed : h.result ≡ Err f = subst (λ (o : Option NodeFault). IfSome o (λ g. h.result ≡ Err g)) refused all in
      let never : true ≡ false = h.taken_ ∙ ap (λ (r : _). is_ok r) failed in absurd (cc)

  begins_at : (w : WorldState S) (replica : ReplicaState) → replica_at old node ≡ Some replica → TakesAt storages old node input.Timeout true w → Begins replica
  begins_at w replica here h =
      let took = took_taken storages old node input.Timeout w replica here h in
      let t : TakesTimeout took.replica took.replica_then took.said = took.takes in
      let same : took.replica ≡ replica = same_replica took.replica replica (sym took.here ∙ here) in
      let is = (is_member contents old membership sound node replica here).1 in
      record {
        in_log = taken_in_log replica (not_refused_here w replica here h);
        ballot = t.1.ballot;
        next = record {
          round = t.1.round ∙ ap (λ (m : ReplicaState). next_round m.proposer) same;
          own = t.1.own ∙ (ap (λ (m : ReplicaState). m.proposer.id) same ∙ (is.proposer.0 ∙ sym is.number));
        };
      }

  -- every phase came behind it
  begins_by : (replica : ReplicaState) → replica_at old node ≡ Some replica → (phase : Phase) (first : ℕ) (w : WorldState S)
      → ComesThrough storages old node members phase first w → Begins replica
  begins_by replica here _ _ w (begins w_ takes) = begins_at w replica here takes
  begins_by replica here _ _ w (asks first between w_ comes delivers) = begins_by replica here begun first between comes
  begins_by replica here _ _ w (answers first between w_ comes none delivers) = begins_by replica here asked first between comes
  begins_by replica here _ _ w (votes first between w_ comes delivers) = begins_by replica here answered first between comes
  begins_by replica here _ _ w (hears first between w_ comes delivers) = begins_by replica here voted first between comes

  -- ---- decided
  learnt_by : (slot : ℕ) (new : WorldState S) → CanMeet old node members → SlotIsDecided storages old node members slot new
      → NodeHasLearnt new node slot
  learnt_by slot new meets h =
      let replica : ReplicaState = h.at.replica in
      let here : replica_at old node ≡ Some replica = ap (λ (o : Option (NodeState (Script S))). replica_in o) h.at.here ∙ h.at.up in
      let start = begins_by replica here heard h.first new h.comes in
      let facts = facts_of replica slot start.ballot here h.at.position_
      (subst (λ (s : ℕ). s < SLOTS) (sym h.at.position_) start.in_log) start.next meets in
      let known = (decides storages old node members slot start.ballot replica facts h.first new h.comes).1 in
      record {
        replica = known.replica;
        here = known.here;
        learnt = is_there (learnt_in known.replica slot) (decides storages old node members slot start.ballot replica facts h.first new h.comes).0
            known.learnt;
      }

  -- ---- refused
  -- where the campaign begins, in words of the node
  record Meets (phase : Phase) (first : ℕ) (w : WorldState S) : Type 0 where
    replica : ReplicaState
    ballot : Ballot
    facts : Facts old node members (position replica) ballot replica

  meets_by : (phase : Phase) (first : ℕ) (w : WorldState S) → CanMeet old node members
      → ComesThrough storages old node members phase first w
      → Meets phase first w
  meets_by phase first w meets comes =
      let up = some_of (replica_at old node) (up_some (slice_get old.nodes node) (meets.up node meets.quorum.own)) in
      let start = begins_by up.0 up.1 phase first w comes in
      record {
        replica = up.0;
        ballot = start.ballot;
        facts = facts_of up.0 (position up.0) start.ballot up.1 refl start.in_log start.next meets;
      }

  -- what a told promise is: the one that its sender had
  record IsToldBy (slot : ℕ) (ballot greatest : Ballot) (e : Envelope) : Type 0 where
    member : ℕ
    replica : ReplicaState
    among : Contains members member
    here : replica_at old member ≡ Some replica
    has : promised replica ≡ Some greatest
    above : rank ballot < rank greatest
    is : e ≡ record { from = member; to = node; message = Nack (record { ballot = ballot; promised = greatest }) }

  module _ (slot : ℕ) (ballot : Ballot) (replica : ReplicaState) (facts : Facts old node members slot ballot replica) (first : ℕ) (between : WorldState S)
      (a : IsAsked storages old node members slot ballot replica facts first between) where
    told_by : (greatest : Ballot) (j : ℕ) (m : ReplicaState) (e : Envelope) → Contains members j → replica_at a.between j ≡ Some m
        → IsAnswer node ballot slot j m e → refusal_in e.message ≡ Some greatest → IsToldBy slot ballot greatest e
    told_by greatest j m e among here (promises p same none tells) told =
        let never : None ≡ Some greatest = sym (ap (λ (x : Envelope). refusal_in x.message) same) ∙ told in absurd (cc)
    told_by greatest j m e among here (declines g same some) told =
        let this : Some g ≡ Some greatest = sym (ap (λ (x : Envelope). refusal_in x.message) same) ∙ told in
        let is : g ≡ greatest = cc in
        let refused = refused_so ballot m.acceptor.promise g some in
        let before = a.begun_.acceptor j m here in
        record {
          member = j;
          replica = before.0;
          among = among;
          here = before.1;
          has = sym (ap (λ (x : Accepting). x.promise) before.2) ∙ (refused.0 ∙ ap (λ (b : Ballot). Some b) is);
          above = subst (λ (b : Ballot). rank ballot < rank b) is refused.1;
          is = same ∙ ap (λ (b : Ballot). the_nack j b) is;
        }
      where
        the_nack : ℕ → Ballot → Envelope
        the_nack j b = record { from = j; to = node; message = Nack (record { ballot = ballot; promised = b }) }

    told_of : (greatest : Ballot) (h : IsGreatestTold (drop first between.frames) greatest) → IsToldBy slot ballot greatest h.frame
    told_of greatest h =
        let one = answer_of_one a.between (length old.nodes) node members ballot slot (length old.nodes) a.below.answers a.below.are h.frame
        (subst (λ (es : List Envelope). Contains es h.frame) a.answers_ h.among) in
        told_by greatest one.member one.replica h.frame one.among one.here one.is h.tells

    -- a member that has promised more has told it
    record HasTold (greatest : Ballot) : Type 0 where
      envelope : Envelope
      among : Contains (drop first between.frames) envelope
      tells : refusal_in envelope.message ≡ Some greatest

    tells_more : (greatest : Ballot) (j : ℕ) (m x : ReplicaState) (e : Envelope) → x.acceptor ≡ m.acceptor → promised m ≡ Some greatest
        → rank ballot < rank greatest → IsAnswer node ballot slot j x e → refusal_in e.message ≡ Some greatest
    tells_more greatest j m x e same has above (promises p is none tells) =
        let some = refuses_above ballot x.acceptor.promise greatest (ap (λ (y : Accepting). y.promise) same ∙ has) above in
        let never : None ≡ Some greatest = sym none ∙ some in absurd (cc)
    tells_more greatest j m x e same has above (declines g is some) =
        let also = refuses_above ballot x.acceptor.promise greatest (ap (λ (y : Accepting). y.promise) same ∙ has) above in
        ap (λ (y : Envelope). refusal_in y.message) is ∙ (sym some ∙ also)

    has_told : (greatest : Ballot) (j : ℕ) (m : ReplicaState) → Contains members j → replica_at old j ≡ Some m → promised m ≡ Some greatest
        → rank ballot < rank greatest → HasTold greatest
    has_told greatest j m among here has above =
        let up = some_of (replica_at a.between j) (a.begun_.up j (facts.up j among)) in
        let before = a.begun_.acceptor j up.0 up.1 in
        let one = answer_of_each a.between (length old.nodes) node members ballot slot (length old.nodes) a.below.answers a.below.are j up.0
        (facts.there j m here) among up.1 in
        let same : before.0 ≡ m = same_replica before.0 m (sym before.1 ∙ here) in
        record {
          envelope = one.envelope;
          among = subst (λ (es : List Envelope). Contains es one.envelope) (sym a.answers_) one.among;
          tells = tells_more greatest j m up.0 one.envelope (before.2 ∙ ap (λ (y : ReplicaState). y.acceptor) same) has above one.is;
        }

  above_so : (greatest : Ballot) (new : WorldState S) → CanMeet old node members → RoundIsRefused storages old node members greatest new
      → IsAbove new node greatest
  above_so greatest new meets h =
      let m = meets_by asked h.first h.between meets h.comes in
      let slot : ℕ = position m.replica in
      let a = asked_lem storages old node members slot m.ballot m.replica m.facts h.first h.between h.comes in
      let t = told_of slot m.ballot m.replica m.facts h.first h.between a greatest h.greatest_ in
      let n : Refusal = record { ballot = m.ballot; promised = greatest } in
      let names : names_run (length old.nodes) (Nack n) ≡ true =
      both (is_of_run (length old.nodes) m.ballot) (is_of_run (length old.nodes) greatest)
      (is_below m.ballot.node (length old.nodes) (owner_there storages old node members slot m.ballot m.replica m.facts))
      (is_below greatest.node (length old.nodes) (promise_of_run contents old sound.allowed membership sound.promises t.member t.replica t.here greatest t.has)) in
      above_told node greatest new
      (told_among (length old.nodes) node n h.greatest_.frame (drop h.first h.between.frames) h.between new
      (hands_all storages (node ∷ []) h.between h.first new h.delivers) h.greatest_.among (ap (λ (e : Envelope). e.to) t.is)
      (subst (λ (i : ℕ). i < length old.nodes) (sym (ap (λ (e : Envelope). e.from) t.is)) (m.facts.there t.member t.replica t.here))
      (ap (λ (e : Envelope). e.message) t.is) names a.known)

  -- ---- before the round nothing disturbs it
  module _ (slot : ℕ) (ballot : Ballot) (quiet : IsUndisturbed old node members slot ballot) where
    quiet_facts : Facts old node members slot ballot quiet.replica
    quiet_facts = facts_of quiet.replica slot ballot quiet.here quiet.at quiet.in_log quiet.next quiet.meets

    not_refused_then : (f : NodeFault) → RefusesToBegin old node f → ⊥
    not_refused_then f h =
        let same : h.replica ≡ quiet.replica =
        same_replica h.replica quiet.replica (sym (ap (λ (o : Option (NodeState (Script S))). replica_in o) h.here ∙ h.up) ∙ quiet.here) in
        not_refused quiet.replica ballot f (subst (λ (s : ℕ). s < SLOTS) quiet.at quiet.in_log) quiet.next quiet.left
        (ap (λ (m : ReplicaState). refuses m input.Timeout) (sym same) ∙ h.refused)

    not_low : (greatest : Ballot) (new : WorldState S) → NoneAbove old members ballot → RoundIsRefused storages old node members greatest new → ⊥
    not_low greatest new none h =
        let a = asked_lem storages old node members slot ballot quiet.replica quiet_facts h.first h.between h.comes in
        let t = told_of slot ballot quiet.replica quiet_facts h.first h.between a greatest h.greatest_ in
        let low = none t.member t.replica t.among t.here in
        let is : rank_of (promised t.replica) ≡ rank greatest = ap (λ (o : Option Ballot). rank_of o) t.has in
        omega (arith, low, is, t.above)

    the_greatest : (greatest told : Ballot) (new : WorldState S) → IsGreatestAbove old members ballot greatest
        → RoundIsRefused storages old node members told new → told ≡ greatest
    the_greatest greatest told new g h =
        let a = asked_lem storages old node members slot ballot quiet.replica quiet_facts h.first h.between h.comes in
        let t = told_of slot ballot quiet.replica quiet_facts h.first h.between a told h.greatest_ in
        let mine = has_told slot ballot quiet.replica quiet_facts h.first h.between a greatest g.member g.replica g.among g.here g.has g.above in
        let low = g.most t.member t.replica t.among t.here in
        let is : rank_of (promised t.replica) ≡ rank told = ap (λ (o : Option Ballot). rank_of o) t.has in
        let high = subst (λ (o : Option Ballot). IfSome o (λ b. rank b ≤ rank told)) mine.tells
        (All-contains (λ (e : Envelope). IfSome (refusal_in e.message) (λ b. rank b ≤ rank told)) (drop h.first h.between.frames)
        mine.envelope h.greatest_.most mine.among) in
        same_rank told greatest (omega (arith, low, is, high))

    -- a member that has promised more lets it not decide
    not_decided : (greatest : Ballot) (other : ℕ) (new : WorldState S) → IsGreatestAbove old members ballot greatest
        → SlotIsDecided storages old node members other new → ⊥
    not_decided greatest other new g h = decided_not g h.first new h.comes
      where
        refused_there : (first : ℕ) (w : WorldState S) → IsGreatestAbove old members ballot greatest
            → (v : AreVoted storages old node members slot ballot quiet.replica quiet_facts first w) → ⊥
        refused_there first w g v =
            let a = v.led.asked_ in
            let up = some_of (replica_at a.between g.member) (a.begun_.up g.member (quiet_facts.up g.member g.among)) in
            let before = a.begun_.acceptor g.member up.0 up.1 in
            let same : before.0 ≡ g.replica = same_replica before.0 g.replica (sym before.1 ∙ g.here) in
            let has = ap (λ (x : Accepting). x.promise) (before.2 ∙ ap (λ (y : ReplicaState). y.acceptor) same) ∙ g.has in
            let some = refuses_above ballot up.0.acceptor.promise greatest has g.above in
            let never : None ≡ Some greatest = sym (v.led.willing_ g.member up.0 g.among up.1) ∙ some in absurd (cc)

        decided_not : IsGreatestAbove old members ballot greatest → (first : ℕ) (w : WorldState S)
            → ComesThrough storages old node members heard first w → ⊥
        decided_not g _ w (hears first between w_ comes delivers) =
            refused_there first between g (voted_lem storages old node members slot ballot quiet.replica quiet_facts first between comes)

    -- the position is what the round began with
    same_slot : (other : ℕ) (new : WorldState S) → SlotIsDecided storages old node members other new → other ≡ slot
    same_slot other new h =
        let same : h.at.replica ≡ quiet.replica =
        same_replica h.at.replica quiet.replica (sym (ap (λ (o : Option (NodeState (Script S))). replica_in o) h.at.here ∙ h.at.up) ∙ quiet.here) in
        h.at.position_ ∙ (ap (λ (m : ReplicaState). position m) same ∙ sym quiet.at)

  -- ---- whatever the end is
  is_down : (m : ℕ) → CanMeet old node members → Contains members m → is_up old m ≡ false → ⊥
  is_down m meets among down = let never : true ≡ false = sym (meets.up m among) ∙ down in absurd (cc)

  not_behind : (m : ℕ) → CanMeet old node members → Contains members m → IsBehind old node m → ⊥
  not_behind m meets among h =
      let level = meets.level h.own h.other m among h.here h.there in
      omega (arith, level, h.above)

  pub progresses : (end : RoundEnd) (new : WorldState S) → RoundEndsIn storages old node members end new → Progresses old node members end new
  progresses NotAQuorum new h = record {
    decided = λ slot e. absurd (cc);
    too_low = λ g e. absurd (cc);
    stopped = λ m e. absurd (cc);
    decides = λ slot ballot quiet none. absurd (h.0 quiet.meets.quorum);
    tells = λ slot ballot greatest quiet g. absurd (h.0 quiet.meets.quorum);
  }
  progresses (Down m) new h = record {
    decided = λ slot e. absurd (cc);
    too_low = λ g e. absurd (cc);
    stopped = λ m e. absurd (cc);
    decides = λ slot ballot quiet none. absurd (is_down m quiet.meets h.1.member h.1.down);
    tells = λ slot ballot greatest quiet g. absurd (is_down m quiet.meets h.1.member h.1.down);
  }
  progresses (Behind m) new h = record {
    decided = λ slot e. absurd (cc);
    too_low = λ g e. absurd (cc);
    stopped = λ m e. absurd (cc);
    decides = λ slot ballot quiet none. absurd (not_behind m quiet.meets h.2.member h.2.behind);
    tells = λ slot ballot greatest quiet g. absurd (not_behind m quiet.meets h.2.member h.2.behind);
  }
  progresses (Refused f) new h = record {
    decided = λ slot e. absurd (cc);
    too_low = λ g e. absurd (cc);
    stopped = λ m e. absurd (cc);
    decides = λ slot ballot quiet none. absurd (not_refused_then slot ballot quiet f h.1.0);
    tells = λ slot ballot greatest quiet g. absurd (not_refused_then slot ballot quiet f h.1.0);
  }
  progresses (Stopped m) new h =
      let own = some_of (replica_at old node) (up_some (slice_get old.nodes node) (h.0.up node h.0.quorum.own)) in
      let down = goes_down storages old node members own.0 own.1 h.0.quorum.own
      (λ j among. up_some (slice_get old.nodes j) (h.0.up j among)) m new h.1 in
      record {
        decided = λ slot e. absurd (cc);
        too_low = λ g e. absurd (cc);
        stopped = λ k e. subst (λ (i : ℕ). HasStopped new members i) (let same : m ≡ k = cc in same) down;
        decides = λ slot ballot quiet none. inr (m, refl);
        tells = λ slot ballot greatest quiet g. inr (m, refl);
      }
  progresses (TooLow told) new h = record {
    decided = λ slot e. absurd (cc);
    too_low = λ g e. subst (λ (b : Ballot). IsAbove new node b) (let same : told ≡ g = cc in same) (above_so told new h.0 h.1);
    stopped = λ m e. absurd (cc);
    decides = λ slot ballot quiet none. absurd (not_low slot ballot quiet told new none h.1);
    tells = λ slot ballot greatest quiet g. inl (ap (λ (b : Ballot). TooLow b) (the_greatest slot ballot quiet greatest told new g h.1));
  }
  progresses (Decided other) new h = record {
    decided = λ slot e. subst (λ (s : ℕ). NodeHasLearnt new node s) (let same : other ≡ slot = cc in same) (learnt_by other new h.0 h.1);
    too_low = λ g e. absurd (cc);
    stopped = λ m e. absurd (cc);
    decides = λ slot ballot quiet none. inl (ap (λ (s : ℕ). Decided s) (same_slot slot ballot quiet other new h.1));
    tells = λ slot ballot greatest quiet g. absurd (not_decided slot ballot quiet greatest other new g h.1);
  }

  pub makes_progress : (end : RoundEnd) (new : WorldState S) → RoundEnds storages old node members end new
      → MakesProgress old node members end new
  makes_progress end new h = record { reached = h.reached; leaves = h.leaves; progresses = progresses end h.reached h.ends }
