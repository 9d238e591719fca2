-- A node stays the node that it is.
use Rattle.std.proofs.Common.{◌≡◌, ℕ, ◌≤◌, nat_lt, Bool, true, false, List, [], Option, Some, None, Result, Ok, Err, IfSome, IfOk}
use Rattle.std.proofs.Common.{IfErr, MatchBool, refl, sym, ap, ◌∙◌, subst, arith, le_refl}
use Rattle.std.proofs.lemmas.Bool.{cond_both}
use Rattle.synod.specs.Acts as act
use Rattle.stable.specs.declared.stable.Stable.{Ghosts}
use Rattle.sessions.specs.Machines.{MachineState}
use Rattle.sessions.specs.declared.command.Command.{Command}
use Rattle.acceptor.specs.Accepting.{Accepting}
use Rattle.learner.specs.Learning.{Learning, skipped, prefix}
use Rattle.learner.specs.declared.learned.Learned.{Learned}
use Rattle.proposer.specs.Proposing.{Proposing, with_promised}
use Rattle.proposer.specs.declared.sends.Outgoing.{Outgoing}
use Rattle.wire.specs.declared.frames.envelope.Envelope.{Envelope}
use Rattle.node_model.specs.declared.fault.NodeFault.{NodeFault}
use Rattle.node_model.specs.declared.input.Input.{Input}
use Rattle.node_model.specs.Faults.{is_stop_fault}
use Rattle.node_model.specs.Loading.{IsReplicaOf, IsMember}
use Rattle.node_model.specs.Replicas.{ReplicaState, waits}
use Rattle.node_model.specs.Nodes.{NodeState, NodeSteps, TakesInput, StopsOnInput, RefusesInput}
use Rattle.node_model.specs.Outputs.{Response}
use Rattle.node_model.specs.Protocol.{accepting_after, round_after}
use Rattle.node_model.specs.Taking.{Takes, Hears, Restores, after_counting, with_request, proposer_of, proposed, execution}
use Rattle.node_model.specs.Taking.{executed_to_the_end}
use Rattle.node_model.proofs.Campaigns.{KeepsRest, proposes_keeps, counting_keeps}
use Rattle.node_model.proofs.Keeping.{vote_keeps, decided_keeps}
use Rattle.node_model.proofs.Saying.{IsInput, Proposes, Says, says_of}
use Rattle.node_model.proofs.Saying.Proposes.{counts, gives_way, is_asked, campaigns, repeats}
use Rattle.node_model.proofs.Saying.Says.{tells, reports, answers, writes, proposes, hears_vote, hears_decided, makes_text}

-- ---- a proposer
-- it is of the same node, has begun this round by now, and was refused in none that is lower
pub record GoesOn (old : Proposing) (round : ℕ) (new : Proposing) : Type 0 where
  pub id_ : new.id ≡ old.id
  pub nodes_ : new.nodes ≡ old.nodes
  pub round_ : new.round ≡ round
  pub refused_ : old.refused ≤ new.refused

as_it_is : (p : Proposing) → GoesOn p p.round p
as_it_is p = record { id_ = refl; nodes_ = refl; round_ = refl; refused_ = le_refl p.refused }

-- then it proposes
proposes_then : (p : Proposing) (round : ℕ) (q : Proposing) (x : Proposing × List Outgoing) → GoesOn p round q → KeepsRest q x
    → GoesOn p round x.0
proposes_then p round q x h k = record {
  id_ = ap (λ (r : Proposing). r.id) k ∙ h.id_;
  nodes_ = ap (λ (r : Proposing). r.nodes) k ∙ h.nodes_;
  round_ = ap (λ (r : Proposing). r.round) k ∙ h.round_;
  refused_ = (let same : x.0.refused ≡ q.refused = ap (λ (r : Proposing). r.refused) k in omega (arith, same, h.refused_));
}

-- ---- a node
-- it is the same node, and its acceptor and its round are those that the input leaves
pub record StaysItself (old : ReplicaState) (i : Input) (new : ReplicaState) : Type 0 where
  pub id_ : new.id ≡ old.id
  pub nodes_ : new.nodes ≡ old.nodes
  pub learner_ : new.learner.nodes ≡ old.learner.nodes
  pub acceptor_ : new.acceptor ≡ accepting_after old i
  pub proposer_ : GoesOn old.proposer (round_after old i) new.proposer

module _ (old new : ReplicaState) (said : Response) (i : Input) where
  -- it comes to such a replica
  comes_to : {in' : act.Input Command} {submits : List Command} (a : Accepting) (round : ℕ) (then : ReplicaState)
      → IsInput old i in' submits a round → new ≡ then → then.id ≡ old.id → then.nodes ≡ old.nodes
      → then.learner.nodes ≡ old.learner.nodes → then.acceptor ≡ a → GoesOn old.proposer round then.proposer → StaysItself old i new
  comes_to a round then is e number of_all learner acceptor proposer = subst (λ (m : ReplicaState). StaysItself old i m) (sym e) (record {
    id_ = number;
    nodes_ = of_all;
    learner_ = learner;
    acceptor_ = acceptor ∙ sym is.acceptor_;
    proposer_ = subst (λ (r : ℕ). GoesOn old.proposer r then.proposer) (sym is.round_) proposer;
  })

  proposer_goes_on : (in' : act.Input Command) (submits : List Command) (round : ℕ) (p : Proposing × List Outgoing)
      → Proposes old in' submits round p → GoesOn old.proposer round p.0
  proposer_goes_on _ _ _ _ (counts from p sender) =
      let q : Proposing = with_promised old.proposer from p in
      proposes_then old.proposer old.proposer.round q (after_counting old.proposer q old.learner)
      (record { id_ = refl; nodes_ = refl; round_ = refl; refused_ = le_refl old.proposer.refused })
      (counting_keeps old.proposer q old.learner)
  proposer_goes_on _ _ _ _ (gives_way from n) =
      record { id_ = refl; nodes_ = refl; round_ = refl; refused_ = omega arith }
  proposer_goes_on _ _ _ _ (is_asked r) =
      cond_both (waits old r.client r.number) _ _ (λ (x : Proposing × List Outgoing). GoesOn old.proposer old.proposer.round x.0)
      (λ _. as_it_is old.proposer)
      (λ _. let p : Proposing = with_request old.proposer r in
      proposes_then old.proposer old.proposer.round p (proposed p old.learner)
      (record { id_ = refl; nodes_ = refl; round_ = refl; refused_ = le_refl old.proposer.refused })
      (proposes_keeps p p.campaign old.learner))
  proposer_goes_on _ _ _ _ (campaigns p prepare starts) = record {
    id_ = ap (λ (q : Proposing). q.id) starts.leaves;
    nodes_ = ap (λ (q : Proposing). q.nodes) starts.leaves;
    round_ = ap (λ (q : Proposing). q.round) starts.leaves;
    refused_ = (let same : p.refused ≡ old.proposer.refused = ap (λ (q : Proposing). q.refused) starts.leaves in omega (arith, same));
  }
  proposer_goes_on _ _ _ _ repeats = as_it_is old.proposer

  -- a learner has heard some news
  hears_stays : {in' : act.Input Command} (c : Command) (learned : Option Learned) (l : Learning) (asks : List Envelope)
      → IsInput old i in' [] old.acceptor old.proposer.round → l.nodes ≡ old.learner.nodes → Hears old c learned l asks new said
      → StaysItself old i new
  hears_stays c None l asks is same k = comes_to old.acceptor old.proposer.round _ is k.0 refl refl same refl (as_it_is old.proposer)
  hears_stays c (Some learned) l asks is same k =
      let p : Proposing = proposer_of old learned.slot (execution old l) in
      comes_to old.acceptor old.proposer.round _ is k.leaves refl refl same refl
      (proposes_then old.proposer old.proposer.round p (proposed p l)
      (record { id_ = refl; nodes_ = refl; round_ = refl; refused_ = le_refl old.proposer.refused }) (proposes_keeps p p.campaign l))

  skipped_nodes : (l : Learning) (target : ℕ) → (skipped l target).nodes ≡ l.nodes
  skipped_nodes l target =
      cond_both (nat_lt (prefix l) target) (record l { first = target }) l (λ (x : Learning). x.nodes ≡ l.nodes) (λ _. refl) (λ _. refl)

  -- the machine of a text is restored
  restored_stays : {in' : act.Input Command} (from target : ℕ) (machine : MachineState)
      → IsInput old i in' [] old.acceptor old.proposer.round → Restores old from target machine new said → StaysItself old i new
  restored_stays from target machine is k =
      let p : Proposing = (executed_to_the_end k.m target).proposer in
      let begun : GoesOn old.proposer old.proposer.round k.m.proposer =
      subst (λ (n : ReplicaState). GoesOn old.proposer old.proposer.round n.proposer) (sym k.begins)
      (record { id_ = refl; nodes_ = refl; round_ = refl; refused_ = le_refl old.proposer.refused }) in
      comes_to old.acceptor old.proposer.round _ is k.leaves (ap (λ (m : ReplicaState). m.id) k.begins)
      (ap (λ (m : ReplicaState). m.nodes) k.begins)
      (ap (λ (m : ReplicaState). m.learner.nodes) k.begins ∙ skipped_nodes old.learner target)
      (ap (λ (m : ReplicaState). m.acceptor) k.begins)
      (proposes_then old.proposer old.proposer.round p (proposed p k.m.learner)
      (record { id_ = begun.id_; nodes_ = begun.nodes_; round_ = begun.round_; refused_ = begun.refused_ })
      (proposes_keeps p p.campaign k.m.learner))

  says_stays : Says old i new said → StaysItself old i new
  says_stays (tells in' f sends is fetched plain leaves says) = comes_to _ _ _ is leaves refl refl refl refl (as_it_is old.proposer)
  says_stays (reports in' to slot c is there learnt leaves says) = comes_to _ _ old is leaves refl refl refl refl (as_it_is old.proposer)
  says_stays (answers in' to a answer is there h leaves says) = comes_to a _ _ is leaves refl refl refl refl (as_it_is old.proposer)
  says_stays (writes a is h leaves says) = comes_to a _ _ is leaves refl refl refl refl (as_it_is old.proposer)
  says_stays (proposes in' submits round p asks is h plain leaves says) =
      comes_to _ round _ is leaves refl refl refl refl (proposer_goes_on in' submits round p h)
  says_stays (hears_vote from to v comes is (learned, l, heard, k)) =
      hears_stays v.command learned l [] is (vote_keeps old.learner l from v learned heard).nodes_ k
  says_stays (hears_decided from to slot c comes is sender (learned, l, heard, k)) =
      hears_stays c learned l _ is (decided_keeps old.learner l slot c learned heard).nodes_ k
  says_stays (makes_text in' is h) = restored_stays h.from h.fetched.target h.machine is h.restored

-- whatever it takes
pub takes_stays : (old : ReplicaState) (i : Input) (new : ReplicaState) (said : Response) → Takes old i new said → StaysItself old i new
takes_stays old i new said k = says_stays old new said i (says_of old new said i k)

pub takes_own : (id nodes : ℕ) (old : ReplicaState) → IsReplicaOf id nodes old → (i : Input) (new : ReplicaState) (said : Response)
    → Takes old i new said → IsReplicaOf id nodes new
takes_own id nodes old is i new said k =
    let h = takes_stays old i new said k in
    record {
      number = h.id_ ∙ is.number;
      of_all = h.nodes_ ∙ is.of_all;
      learner = h.learner_ ∙ is.learner;
      proposer = (h.proposer_.id_ ∙ is.proposer.0, h.proposer_.nodes_ ∙ is.proposer.1);
    }

-- ---- a step of it
module _ {S : Type 0} (storages : Ghosts S) (id nodes : ℕ) (old new : NodeState S) (i : Input) (is : IsMember id nodes old) where
  same_member : new ≡ old → IsMember id nodes new
  same_member e = subst (λ (n : NodeState S). IsMember id nodes n) (sym e) is

  taken_member : (m : ReplicaState) (said : Response) → old.up ≡ Some m → TakesInput storages old m i said new → IsMember id nodes new
  taken_member m said up k = subst (λ (n : NodeState S). IsMember id nodes n) (sym k.leaves) (record {
    number = is.number;
    of_all = is.of_all;
    up = λ n e. subst (λ (x : ReplicaState). IsReplicaOf id nodes x) (let same : k.replica ≡ n = cc in same)
        (takes_own id nodes m (is.up m up) i k.replica said k.takes);
  })

  stopped_member : (m : ReplicaState) (f : NodeFault) → StopsOnInput storages old m i f new → IsMember id nodes new
  stopped_member m f k = subst (λ (n : NodeState S). IsMember id nodes n) (sym k.leaves) (record {
    number = is.number;
    of_all = is.of_all;
    up = λ n e. absurd (cc);
  })

  failed_member : (m : ReplicaState) (f : NodeFault) (b : Bool) → MatchBool b (StopsOnInput storages old m i f new) (RefusesInput old m i f new)
      → IsMember id nodes new
  failed_member m f true k = stopped_member m f k
  failed_member m f false k = same_member k.leaves

  up_member : (m : ReplicaState) (r : Result Response NodeFault) → old.up ≡ Some m → IfOk r (λ said. TakesInput storages old m i said new)
      → IfErr r (λ f. MatchBool (is_stop_fault f) (StopsOnInput storages old m i f new) (RefusesInput old m i f new))
      → IsMember id nodes new
  up_member m (Ok said) up taken failed = taken_member m said up taken
  up_member m (Err f) up taken failed = failed_member m f (is_stop_fault f) failed

  either_member : (o : Option ReplicaState) (r : Result Response NodeFault) → old.up ≡ o → NodeSteps storages old i r new → IsMember id nodes new
  either_member None r e k = same_member (k.down e).1
  either_member (Some m) r e k = up_member m r e
      (subst (λ (o : Option ReplicaState). IfSome o (λ (n : ReplicaState). IfOk r (λ said. TakesInput storages old n i said new))) e k.taken)
      (subst (λ (o : Option ReplicaState). IfSome o (λ (n : ReplicaState). IfErr r (λ f.
      MatchBool (is_stop_fault f) (StopsOnInput storages old n i f new) (RefusesInput old n i f new)))) e k.refused)

  pub steps_member : (r : Result Response NodeFault) → NodeSteps storages old i r new → IsMember id nodes new
  steps_member r k = either_member old.up r refl k
