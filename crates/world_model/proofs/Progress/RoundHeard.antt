-- The last phase of a round: the votes come to the node, which learns what they are for.
use Rattle.std.proofs.Common.{◌≡◌, inl, inr, ℕ, zero, suc, ◌<◌, ◌≤◌, List, [], ◌∷◌, Contains, Some, refl, sym, ap, subst, ◌∙◌, arith}
use Rattle.synod.specs.declared.vote.Vote.{Vote}
use Rattle.sessions.specs.declared.command.Command.{Command}
use Rattle.proposer.proofs.Votes.{in_cons, in_head, in_none}
use Rattle.wire.specs.declared.frames.envelope.Envelope.{Envelope}
use Rattle.wire.specs.declared.frames.message.Message.{Message}
use Rattle.wire.specs.declared.frames.message.Message.TheVariants.{Accepted}
use Rattle.node_model.specs.Loading.{IsReplicaOf}
use Rattle.node_model.specs.Replicas.{ReplicaState}
use Rattle.node_model.specs.Sending.{to_all}
use Rattle.node_model.specs.Taking.{TakesMessage}
use Rattle.node_model.specs.declared.input.Input.TheVariants as input
use Rattle.node_model.proofs.Members.{takes_own}
use Rattle.world_model.specs.Progress.{replica_at}
use Rattle.world_model.specs.Worlds.{WorldState}
use Rattle.world_model.proofs.Progress.Handing.{Took, HandsOn, ends, skips, takes, hands_apart, same_or_not}
use Rattle.world_model.proofs.Progress.Hearing.{HasHeard, passed_one, heard_one, stays_learnt, hears_of_vote}
use Rattle.world_model.proofs.Progress.RoundAsked.{takes_message, it_concerns, is_below}
use Rattle.world_model.proofs.Progress.RoundVoted.{Votes, no_votes, passed_vote, told_vote}

-- ---- of a message to all, one comes to the node
abbrev pub one_to : ℕ → ℕ → Message → Envelope
one_to from to message = record { from = from; to = to; message = message }

module _ {S : Type 0} (node from : ℕ) (message : Message) where
  -- of those to the nodes below a number: the one, where the node is below it
  pub data Reaches (k : ℕ) (w now : WorldState S) : Type 0 where
    not_yet : k ≤ node → now ≡ w → Reaches k w now
    reached : node < k → Took w (one_to from node message) now → Reaches k w now

  reaches_next : (k : ℕ) (w mid now : WorldState S) → Reaches k w mid → HandsOn (node ∷ []) (one_to from k message ∷ []) mid now
      → Reaches (suc k) w now
  reaches_next k w mid now (not_yet less same) (skips e es w_ now_ not (ends last)) = elim (same_or_not k node) [
    | inl here ↦ absurd (not (subst (λ (i : ℕ). Contains (node ∷ []) i) (sym here) (in_head node [])))
    | inr other ↦ not_yet (omega (arith, less, other)) same
  ]
  reaches_next k w mid now (reached less took) (skips e es w_ now_ not (ends last)) = reached (omega (arith, less)) took
  reaches_next k w mid now (not_yet less same) (takes e es w_ new now_ among took (ends last)) =
      let here : node ≡ k = only among in
      reached (omega (arith, here)) (subst (λ (v : WorldState S). Took v (one_to from node message) now) same
      (subst (λ (i : ℕ). Took mid (one_to from i message) now) (sym here) took))
    where
      only : {x : ℕ} → Contains (node ∷ []) x → node ≡ x
      only among = elim (in_cons _ _ [] among) [ inl same ↦ same | inr never ↦ absurd (in_none _ never) ]
  reaches_next k w mid now (reached less took) (takes e es w_ new now_ among took_ (ends last)) =
      let here : node ≡ k = only among in absurd (omega (arith, here, less))
    where
      only : {x : ℕ} → Contains (node ∷ []) x → node ≡ x
      only among = elim (in_cons _ _ [] among) [ inl same ↦ same | inr never ↦ absurd (in_none _ never) ]

  pub reaches : (k : ℕ) (w now : WorldState S) → HandsOn (node ∷ []) (to_all from k message) w now → Reaches k w now
  reaches zero w now (ends w_) = not_yet (omega arith) refl
  reaches (suc k) w now hands =
      let two = hands_apart (node ∷ []) (to_all from k message) (one_to from k message ∷ []) w now hands in
      reaches_next k w two.mid now (reaches k w two.mid two.first) two.then

  -- the node is one of those
  pub reaches_it : (k : ℕ) (w now : WorldState S) → node < k → Reaches k w now → Took w (one_to from node message) now
  reaches_it k w now there (not_yet less same) = absurd (omega (arith, there, less))
  reaches_it k w now there (reached less took) = took

-- ---- the votes come, one member's after the other's
module _ {S : Type 0} (start : WorldState S) (nodes node : ℕ) (members : List ℕ) (v : Vote Command) where
  -- those of the members below a number were heard
  pub record HeardUpTo (k : ℕ) (now : WorldState S) : Type 0 where
    pub replica : ReplicaState
    pub here : replica_at now node ≡ Some replica
    pub is : IsReplicaOf node nodes replica
    pub heard : HasHeard replica.learner v.slot v.ballot v.command members k

  same_replica : (m n : ReplicaState) → Some m ≡ Some n → m ≡ n
  same_replica m n e = let same : m ≡ n = cc in same

  -- one more
  heard_member : (k : ℕ) (mid now : WorldState S) → k < nodes → v.ballot.node < nodes → HeardUpTo k mid
      → Took mid (one_to k node (Accepted v)) now → HeardUpTo (suc k) now
  heard_member k mid now there owner_there h took =
      let same : h.replica ≡ took.replica = same_replica h.replica took.replica (sym h.here ∙ took.here) in
      let is : IsReplicaOf node nodes took.replica = subst (λ (x : ReplicaState). IsReplicaOf node nodes x) same h.is in
      let t : TakesMessage took.replica k (Accepted v) took.replica_then took.said =
      takes_message took.replica (one_to k node (Accepted v)) took.replica_then took.said
      (it_concerns node nodes took.replica (one_to k node (Accepted v)) is refl there (is_below v.ballot.node nodes owner_there)) took.takes in
      let news = hears_of_vote took.replica k v took.replica_then took.said t in
      record {
        replica = took.replica_then;
        here = took.here_then;
        is = takes_own node nodes took.replica is (input.Message (one_to k node (Accepted v))) took.replica_then took.said took.takes;
        heard = heard_one took.replica.learner v.slot v.ballot v.command members k news.0 took.replica_then.learner
            (subst (λ (x : ReplicaState). HasHeard x.learner v.slot v.ballot v.command members k) same h.heard)
            (subst (λ (n : ℕ). k < n) (sym is.learner) there) news.1;
      }

  heard_another : (k : ℕ) (now : WorldState S) → (Contains members k → ⊥) → HeardUpTo k now → HeardUpTo (suc k) now
  heard_another k now not h = record {
    replica = h.replica;
    here = h.here;
    is = h.is;
    heard = passed_one h.replica.learner v.slot v.ballot v.command members k not h.heard;
  }

  pub heard_up_to : {T : Type 0} (w : WorldState T) (owner_there : v.ballot.node < nodes) (node_there : node < nodes) → HeardUpTo zero start
      → (k : ℕ) (es : List Envelope) → Votes w nodes node members v k es → k ≤ nodes → (now : WorldState S)
      → HandsOn (node ∷ []) es start now → HeardUpTo k now
  heard_up_to w owner_there node_there h _ _ no_votes within now (ends w_) = h
  heard_up_to w owner_there node_there h _ es (passed_vote k es_ not votes) within now hands =
      heard_another k now not (heard_up_to w owner_there node_there h k es votes (omega (arith, within)) now hands)
  heard_up_to w owner_there node_there h _ _ (told_vote k es among votes) within now hands =
      let two = hands_apart (node ∷ []) es (to_all k nodes (Accepted v)) start now hands in
      heard_member k two.mid now (omega (arith, within)) owner_there
      (heard_up_to w owner_there node_there h k es votes (omega (arith, within)) two.mid two.first)
      (reaches_it node k (Accepted v) nodes two.mid now node_there (reaches node k (Accepted v) nodes two.mid now two.then))

-- ---- what is learnt stays so, whatever else comes
pub record Knows {S : Type 0} (node slot : ℕ) (c : Command) (now : WorldState S) : Type 0 where
  pub replica : ReplicaState
  pub here : replica_at now node ≡ Some replica
  pub learnt : replica.learner.learnt slot ≡ Some c

module _ {S : Type 0} (node slot : ℕ) (c : Command) (receivers : List ℕ) where
  knows_on : (old : WorldState S) (e : Envelope) (new : WorldState S) → Took old e new → Knows node slot c old → Knows node slot c new
  knows_on old e new took h = elim (same_or_not node e.to) [
    | inl here ↦
        let same : h.replica ≡ took.replica =
        same_replica h.replica took.replica (sym h.here ∙ (ap (λ (i : ℕ). replica_at old i) here ∙ took.here)) in
        record {
          replica = took.replica_then;
          here = ap (λ (i : ℕ). replica_at new i) here ∙ took.here_then;
          learnt = stays_learnt took.replica e took.replica_then took.said slot c took.takes
              (ap (λ (x : ReplicaState). x.learner.learnt slot) (sym same) ∙ h.learnt);
        }
    | inr other ↦ record { replica = h.replica; here = took.others node other ∙ h.here; learnt = h.learnt }
  ]
    where
      same_replica : (m n : ReplicaState) → Some m ≡ Some n → m ≡ n
      same_replica m n e = let same : m ≡ n = cc in same

  pub knows_still : (es : List Envelope) (old new : WorldState S) → HandsOn receivers es old new → Knows node slot c old
      → Knows node slot c new
  knows_still _ old new (ends w) h = h
  knows_still _ old new (skips e es w new_ not hands) h = knows_still es old new hands h
  knows_still _ old new (takes e es w mid new_ among took hands) h = knows_still es mid new hands (knows_on old e mid took h)
