-- The greatest round of any refusal that a node was told is forgotten by a restart alone.
use Rattle.std.proofs.Common.{◌≡◌, inl, inr, ℕ, ◌+◌, ◌<◌, ◌≤◌, List, [], ◌∷◌, Contains, true, Some, refl, sym}
use Rattle.std.proofs.Common.{ap, subst, ◌∙◌, arith, le_refl}
use Rattle.std.specs.Prelude.{max}
use Rattle.synod.specs.declared.ballot.Ballot.{Ballot}
use Rattle.proposer.proofs.Votes.{in_cons, in_head, in_none}
use Rattle.wire.specs.Promises.{Refused}
use Rattle.wire.specs.declared.frames.envelope.Envelope.{Envelope}
use Rattle.wire.specs.declared.frames.message.Message.{Message}
use Rattle.wire.specs.declared.frames.message.Message.TheVariants.{Nack}
use Rattle.node_model.specs.Inputs.{is_for_this_run, names_run}
use Rattle.node_model.specs.Replicas.{ReplicaState}
use Rattle.node_model.specs.Outputs.{Response}
use Rattle.node_model.specs.Protocol.{round_after}
use Rattle.node_model.specs.Taking.{Takes, TakesMessage}
use Rattle.node_model.proofs.Members.{takes_stays}
use Rattle.node_model.specs.declared.input.Input.{Input}
use Rattle.node_model.specs.declared.input.Input.TheVariants as input
use Rattle.world_model.specs.Progress.{replica_at, IsAbove}
use Rattle.world_model.specs.Worlds.{WorldState}
use Rattle.world_model.proofs.Progress.Handing.{Took, HandsOn, ends, skips, takes, AreMembers, stay_members, same_replica, same_or_not}
use Rattle.world_model.proofs.Progress.RoundAsked.{takes_message, it_concerns}

-- ---- a node
abbrev refused_of : ReplicaState → ℕ
refused_of m = m.proposer.refused

-- it is the same node, and neither of its rounds falls
pub record Grows (old new : ReplicaState) : Type 0 where
  pub own : new.id ≡ old.id
  pub refused_ : refused_of old ≤ refused_of new
  pub round_ : old.proposer.round ≤ new.proposer.round

-- no input lowers the round
round_grows : (m : ReplicaState) (i : Input) → m.proposer.round ≤ round_after m i
round_grows m input.Timeout = omega arith
round_grows m other = le_refl m.proposer.round

-- whatever it takes
pub takes_grows : (old : ReplicaState) (i : Input) (new : ReplicaState) (said : Response) → Takes old i new said → Grows old new
takes_grows old i new said h =
    let stays = takes_stays old i new said h in
    let grows = round_grows old i in
    record { own = stays.id_; refused_ = stays.proposer_.refused_; round_ = omega (arith, grows, stays.proposer_.round_) }

-- a refusal that concerns it
told_so : (old : ReplicaState) (e : Envelope) (n : Refused) (new : ReplicaState) (said : Response) → is_for_this_run old.id old.nodes e ≡ true → e.message ≡ Nack n
    → Takes old (input.Message e) new said → n.promised.round ≤ refused_of new
told_so old e n new said here is h =
    let t : TakesMessage old e.from (Nack n) new said =
    subst (λ (m : Message). TakesMessage old e.from m new said) is (takes_message old e new said here h) in
    let same : refused_of new ≡ max (refused_of old) n.promised.round = ap (λ (m : ReplicaState). refused_of m) t.0 in
    omega (arith, same)

-- ---- over envelopes that come
-- the node was told of a round as great
pub record WasTold {S : Type 0} (node round : ℕ) (w : WorldState S) : Type 0 where
  pub replica : ReplicaState
  pub here : replica_at w node ≡ Some replica
  pub told : round ≤ refused_of replica

module _ {S : Type 0} (nodes node : ℕ) where
  told_on : (round : ℕ) (old : WorldState S) (e : Envelope) (new : WorldState S) → Took old e new → WasTold node round old
      → WasTold node round new
  told_on round old e new took h = elim (same_or_not node e.to) [
    | inl here ↦
        let same : h.replica ≡ took.replica = same_replica h.replica took.replica (sym h.here ∙ (ap (λ (i : ℕ). replica_at old i) here ∙ took.here)) in
        let more = (takes_grows took.replica (input.Message e) took.replica_then took.said took.takes).refused_ in
        let before : refused_of h.replica ≡ refused_of took.replica = ap (λ (m : ReplicaState). refused_of m) same in
        record {
          replica = took.replica_then;
          here = ap (λ (i : ℕ). replica_at new i) here ∙ took.here_then;
          told = omega (arith, more, before, h.told);
        }
    | inr other ↦ record { replica = h.replica; here = took.others node other ∙ h.here; told = h.told }
  ]

  told_still : (round : ℕ) (receivers : List ℕ) (es : List Envelope) (old new : WorldState S) → HandsOn receivers es old new
      → WasTold node round old → WasTold node round new
  told_still round receivers _ old new (ends w) h = h
  told_still round receivers _ old new (skips e es w new_ not hands) h = told_still round receivers es old new hands h
  told_still round receivers _ old new (takes e es w mid new_ among took hands) h =
      told_still round receivers es mid new hands (told_on round old e mid took h)

  -- one of them is a refusal, to the node
  pub told_among : (n : Refused) (f : Envelope) (es : List Envelope) (old new : WorldState S) → HandsOn (node ∷ []) es old new
      → Contains es f → f.to ≡ node → f.from < nodes → f.message ≡ Nack n → names_run nodes (Nack n) ≡ true → AreMembers nodes old
      → WasTold node n.promised.round new
  told_among n f _ old new (ends w) among to from is names known = absurd (in_none f among)
  told_among n f _ old new (skips e es w new_ not hands) among to from is names known = elim (in_cons e f es among) [
    | inl same ↦ absurd (not (subst (λ (i : ℕ). Contains (node ∷ []) i) (sym (ap (λ (x : Envelope). x.to) same ∙ to)) (in_head node [])))
    | inr later ↦ told_among n f es old new hands later to from is names known
  ]
  told_among n f _ old new (takes e es w mid new_ within took hands) among to from is names known = elim (in_cons e f es among) [
    | inl same ↦
        let here : e.to ≡ node = ap (λ (x : Envelope). x.to) same ∙ to in
        let message : e.message ≡ Nack n = ap (λ (x : Envelope). x.message) same ∙ is in
        let it = it_concerns e.to nodes took.replica e (known e.to took.replica took.here) refl
        (subst (λ (i : ℕ). i < nodes) (sym (ap (λ (x : Envelope). x.from) same)) from)
        (subst (λ (m : Message). names_run nodes m ≡ true) (sym message) names) in
        told_still n.promised.round (node ∷ []) es mid new hands (record {
          replica = took.replica_then;
          here = ap (λ (i : ℕ). replica_at mid i) (sym here) ∙ took.here_then;
          told = told_so took.replica e n took.replica_then took.said it message took.takes;
        })
    | inr later ↦ told_among n f es mid new hands later to from is names
        (stay_members nodes old e.to (input.Message e) mid took known)
  ]

-- so its next ballot is above that one
pub above_told : {S : Type 0} (node : ℕ) (greatest : Ballot) (w : WorldState S) → WasTold node greatest.round w → IsAbove w node greatest
above_told node greatest w h = record {
  replica = h.replica;
  here = h.here;
  next = λ b is.
      let round : b.round ≡ max h.replica.proposer.round (refused_of h.replica) + 1 = is.round in
      let of_a_node = greatest.of_a_node in
      omega (arith, round, h.told, of_a_node);
}
