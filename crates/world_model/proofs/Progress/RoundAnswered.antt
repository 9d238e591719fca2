-- The second phase of a round: the members' promises come to the node, which leads by them, and asks all for their votes.
use Rattle.std.proofs.Common.{◌≡◌, ◌≢◌, ◌⊎◌, inl, inr, ℕ, zero, suc, ◌<◌, ◌≤◌, List, [], ◌∷◌, ◌++◌, All, AllPairs, length, Contains, Bool}
use Rattle.std.proofs.Common.{true, false, Some, None, refl, sym, ap, subst, ◌∙◌, arith}
use Rattle.std.specs.List.{list_all}
use Rattle.std.specs.Prelude.{replicate}
use Rattle.std.proofs.lemmas.List.{append_assoc, append-nil}
use Rattle.synod.specs.Majorities.{IsMajority}
use Rattle.synod.specs.declared.ballot.Ballot.{Ballot}
use Rattle.synod.specs.declared.slot.TheConstants.{SLOTS}
use Rattle.synod.specs.declared.vote.Vote.{Vote}
use Rattle.sessions.specs.declared.command.Command.{Command}
use Rattle.acceptor.specs.Accepting.{refusing}
use Rattle.acceptor.specs.Ranges.{IsPromiseFrom}
use Rattle.learner.specs.Learning.{Learning, prefix}
use Rattle.proposer.specs.Campaigning.{is_most}
use Rattle.proposer.proofs.Votes.{in_head, in_tail}
use Rattle.wire.specs.NodeSets.{has_node, with_node, no_nodes}
use Rattle.wire.specs.Promises.{Promised}
use Rattle.wire.specs.declared.frames.envelope.Envelope.{Envelope}
use Rattle.wire.specs.declared.frames.message.Message.TheVariants.{Accept, Promise}
use Rattle.node_model.specs.Inputs.{names_run, is_of_run, is_vote_of_run}
use Rattle.node_model.specs.Loading.{IsReplicaOf}
use Rattle.node_model.specs.Replicas.{ReplicaState, position}
use Rattle.node_model.specs.Outputs.{Response}
use Rattle.node_model.specs.Sending.{to_all}
use Rattle.node_model.specs.Taking.{Takes, TakesMessage, with_proposer, proposer_sends, after_promise}
use Rattle.node_model.specs.declared.input.Input.TheVariants as input
use Rattle.node_model.proofs.Members.{takes_own}
use Rattle.world_model.specs.Progress.{replica_at}
use Rattle.world_model.specs.Worlds.{WorldState}
use Rattle.world_model.proofs.Progress.Handing.{Took, HandsOn, ends, skips, takes, hands_apart, same_or_not}
use Rattle.world_model.proofs.Progress.Leading.{Gathers, LeadsNow, AsksForVote, AsksAll, counts_one, counts_no_more, cannot_gather}
use Rattle.world_model.proofs.Progress.RoundAsked.{takes_message, it_concerns, is_below, both, IsAnswer, promises, declines, Answers, none, passed}
use Rattle.world_model.proofs.Progress.RoundAsked.{answered}

-- ---- sets of nodes
set_flag : (set : List Bool) (i j : ℕ) → has_node set j ≡ true → has_node (with_node set i) j ≡ true
set_flag [] i j h = h
set_flag (b ∷ bs) zero zero h = refl
set_flag (b ∷ bs) zero (suc j) h = h
set_flag (b ∷ bs) (suc i) zero h = h
set_flag (b ∷ bs) (suc i) (suc j) h = set_flag bs i j h

own_flag : (set : List Bool) (i : ℕ) → i < length set → has_node (with_node set i) i ≡ true
own_flag [] i less = absurd (omega (arith, less))
own_flag (b ∷ bs) zero less = refl
own_flag (b ∷ bs) (suc i) less = own_flag bs i (omega (arith, less))

other_flag : (set : List Bool) (i j : ℕ) → j ≢ i → has_node set j ≡ false → has_node (with_node set i) j ≡ false
other_flag [] i j other h = h
other_flag (b ∷ bs) zero zero other h = absurd (other refl)
other_flag (b ∷ bs) zero (suc j) other h = h
other_flag (b ∷ bs) (suc i) zero other h = h
other_flag (b ∷ bs) (suc i) (suc j) other h = other_flag bs i j (λ same. other (ap suc same)) h

same_flags : (set : List Bool) (i : ℕ) → length (with_node set i) ≡ length set
same_flags [] i = refl
same_flags (b ∷ bs) zero = refl
same_flags (b ∷ bs) (suc i) = ap suc (same_flags bs i)

all_of : {A : Type 0} (test : A → Bool) (xs : List A) → ((x : A) → Contains xs x → test x ≡ true) → list_all test xs ≡ true
all_of test [] h = refl
all_of test (x ∷ xs) h = both (test x) (list_all test xs) (h x (in_head x xs)) (all_of test xs (λ y among. h y (in_tail x y xs among)))

no_flag : (n j : ℕ) → has_node (replicate n false) j ≡ false
no_flag zero j = refl
no_flag (suc n) zero = refl
no_flag (suc n) (suc j) = no_flag n j

-- ---- a promise that was answered names the nodes of the run
pub promise_names : (nodes : ℕ) (ballot : Ballot) (slot : ℕ) (m : ReplicaState) (p : Promised) → ballot.node < nodes
    → ((s : ℕ) (v : Vote Command) → m.acceptor.vote s ≡ Some v → v.ballot.node < nodes) → IsPromiseFrom m.acceptor.vote ballot slot p
    → names_run nodes (Promise p) ≡ true
promise_names nodes ballot slot m p owner voted h =
    both (is_of_run nodes p.ballot) (list_all (is_vote_of_run nodes) p.entries)
    (subst (λ (b : Ballot). is_of_run nodes b ≡ true) (sym h.of_the_ballot) (is_below ballot.node nodes owner))
    (all_of (is_vote_of_run nodes) p.entries (λ v among. is_below v.ballot.node nodes (voted v.slot v (h.tells.stand v among))))

-- what it makes of the node
pub record Counts (node : ℕ) (from : ℕ) (p : Promised) (m new : ReplicaState) (said : Response) : Type 0 where
  pub leaves : new ≡ with_proposer m (after_promise m from p)
  pub sends : said.sends ≡ proposer_sends m (after_promise m from p)

pub counts_promise : (nodes node from : ℕ) (p : Promised) (m new : ReplicaState) (said : Response) → IsReplicaOf node nodes m → from < nodes
    → names_run nodes (Promise p) ≡ true → Takes m (input.Message (record { from = from; to = node; message = Promise p })) new said
    → Counts node from p m new said
counts_promise nodes node from p m new said is there names h =
    let e : Envelope = record { from = from; to = node; message = Promise p } in
    let t : TakesMessage m from (Promise p) new said =
    takes_message m e new said (it_concerns node nodes m e is refl there names) h in
    record { leaves = t.0; sends = ap (λ (r : Response). r.sends) t.1 }

-- ---- all promises come to the node, one after the other
module _ {S : Type 0} (w start : WorldState S) (nodes node : ℕ) (members : List ℕ) (ballot : Ballot) (slot : ℕ) (replica : ReplicaState) where
  -- it asks all for their votes for a command at the slot, and perhaps for more
  pub record Asks (sends : List Envelope) : Type 0 where
    pub command : Command
    pub more : List Envelope
    pub are : sends ≡ to_all node nodes (Accept (record { slot = slot; ballot = ballot; command = command })) ++ more
    pub votes : All AsksForVote more

  -- the promises of the members below a number were counted
  pub record Gathering (k : ℕ) (m : ReplicaState) (sends : List Envelope) : Type 0 where
    pub set : List Bool
    pub gathers : Gathers ballot slot m set
    pub flags : length set ≡ 7
    pub counted_ : (j : ℕ) → j < k → Contains members j → has_node set j ≡ true
    pub uncounted : (j : ℕ) → k ≤ j → has_node set j ≡ false
    pub silent : sends ≡ []

  -- the node leads already
  pub record Leading (m : ReplicaState) (sends : List Envelope) : Type 0 where
    pub leads : LeadsNow m
    pub asks : Asks sends

  pub record CountedBelow (k : ℕ) (now : WorldState S) : Type 0 where
    pub replica_then : ReplicaState
    pub here : replica_at now node ≡ Some replica_then
    pub is : IsReplicaOf node nodes replica_then
    pub learner : replica_then.learner ≡ replica.learner
    pub acceptor : replica_then.acceptor ≡ replica.acceptor
    pub others : (j : ℕ) → j ≢ node → replica_at now j ≡ replica_at start j
    pub sends : List Envelope
    pub frames_ : now.frames ≡ start.frames ++ sends
    pub so_far : Gathering k replica_then sends ⊎ Leading replica_then sends

  -- all have come: it has asked all for their votes
  pub record HasAsked (now : WorldState S) : Type 0 where
    pub replica_then : ReplicaState
    pub here_then : replica_at now node ≡ Some replica_then
    pub is_then : IsReplicaOf node nodes replica_then
    pub learner : replica_then.learner ≡ replica.learner
    pub acceptor : replica_then.acceptor ≡ replica.acceptor
    pub others : (j : ℕ) → j ≢ node → replica_at now j ≡ replica_at start j
    pub sends : List Envelope
    pub frames_ : now.frames ≡ start.frames ++ sends
    pub asks : Asks sends

  -- a promise comes while it gathers
  module _ (node_there : node < nodes) (owner_there : ballot.node < nodes) (few : nodes ≤ 7) (at : slot ≡ position replica)
      (in_log : slot < SLOTS)
      (unlearnt : replica.learner.learnt slot ≡ None) where
    asks_so : (m : ReplicaState) (sends says : List Envelope) → AsksAll m ballot slot says → sends ≡ says → m.id ≡ node → m.nodes ≡ nodes
        → Asks sends
    asks_so m sends says a same number of_all = record {
      command = a.command;
      more = a.more;
      are = same ∙ (a.are ∙ (ap (λ (i : ℕ). to_all i m.nodes
          (Accept (record { slot = slot; ballot = ballot; command = a.command })) ++ a.more) number
          ∙ ap (λ (n : ℕ). to_all node n (Accept (record { slot = slot; ballot = ballot; command = a.command })) ++ a.more) of_all));
      votes = a.votes;
    }

    gathers_on : (k : ℕ) (p : Promised) (m new : ReplicaState) (said : Response) (sends : List Envelope) → Gathering k m sends
        → Counts node k p m new said → k < nodes → p.ballot ≡ ballot → p.first ≡ slot → slot ≤ p.last → m.learner ≡ replica.learner
        → IsReplicaOf node nodes m → Gathering (suc k) new (sends ++ said.sends) ⊎ Leading new (sends ++ said.sends)
    gathers_on k p m new said sends g c there of_ballot from within learner is =
        let silent : sends ++ said.sends ≡ proposer_sends m (after_promise m k p) =
        ap (λ (xs : List Envelope). xs ++ said.sends) g.silent ∙ c.sends in
        elim (counts_one ballot slot m g.set k p g.gathers of_ballot from within (g.uncounted k (omega arith))
        (at ∙ ap (λ (l : Learning). prefix l) (sym learner)) in_log (ap (λ (l : Learning). l.learnt slot) learner ∙ unlearnt)) [
          | inl more ↦ inl (record {
            set = with_node g.set k;
            gathers = subst (λ (x : ReplicaState). Gathers ballot slot x (with_node g.set k)) (sym c.leaves) more.0;
            flags = same_flags g.set k ∙ g.flags;
            counted_ = λ j less among. elim (same_or_not j k) [
              | inl same ↦ subst (λ (i : ℕ). has_node (with_node g.set k) i ≡ true) (sym same)
                  (own_flag g.set k (omega (arith, there, few, g.flags)))
              | inr other ↦ set_flag g.set k j (g.counted_ j (omega (arith, less, other)) among)
            ];
            uncounted = λ j less. other_flag g.set k j (λ same. omega (arith, less, same)) (g.uncounted j (omega (arith, less)));
            silent = silent ∙ more.1;
          })
          | inr lead ↦ inr (record {
            leads = subst (λ (x : ReplicaState). LeadsNow x) (sym c.leaves) lead.0;
            asks = asks_so m (sends ++ said.sends) (proposer_sends m (after_promise m k p)) lead.1 silent is.number is.of_all;
          })
        ]

    leads_on : (k : ℕ) (p : Promised) (m new : ReplicaState) (said : Response) (sends : List Envelope) → Leading m sends
        → Counts node k p m new said
        → Leading new (sends ++ said.sends)
    leads_on k p m new said sends l c =
        let none : after_promise m k p ≡ (m.proposer, []) = counts_no_more m k p l.leads in
        let silent : said.sends ≡ [] = c.sends ∙ ap (λ (x : _). proposer_sends m x) none in
        let same : new ≡ m = c.leaves ∙ ap (λ (x : _). with_proposer m x) none in
        record {
          leads = subst (λ (x : ReplicaState). LeadsNow x) (sym same) l.leads;
          asks = subst (λ (xs : List Envelope). Asks xs) (sym (ap (λ (xs : List Envelope). sends ++ xs) silent ∙ append-nil sends)) l.asks;
        }

    counted_so : (k : ℕ) (p : Promised) (m new : ReplicaState) (said : Response) (sends : List Envelope)
        → Gathering k m sends ⊎ Leading m sends → Counts node k p m new said → k < nodes → p.ballot ≡ ballot → p.first ≡ slot
        → slot ≤ p.last → m.learner ≡ replica.learner → IsReplicaOf node nodes m
        → Gathering (suc k) new (sends ++ said.sends) ⊎ Leading new (sends ++ said.sends)
    counted_so k p m new said sends (inl g) c there of_ballot from within learner is =
        gathers_on k p m new said sends g c there of_ballot from within learner is
    counted_so k p m new said sends (inr l) c there of_ballot from within learner is = inr (leads_on k p m new said sends l c)

    promise_from : ℕ → Promised → Envelope
    promise_from k p = record { from = k; to = node; message = Promise p }

    -- a member's promise comes
    counted_promise : (k : ℕ) (p : Promised) (mid now : WorldState S) (m : ReplicaState) → CountedBelow k mid → k < nodes
        → IsPromiseFrom m.acceptor.vote ballot slot p → names_run nodes (Promise p) ≡ true
        → Took mid (record { from = k; to = node; message = Promise p }) now → CountedBelow (suc k) now
    counted_promise k p mid now m h there tells names took =
        let same : h.replica_then ≡ took.replica = same_replica h.replica_then took.replica (sym h.here ∙ took.here) in
        let is : IsReplicaOf node nodes took.replica = subst (λ (x : ReplicaState). IsReplicaOf node nodes x) same h.is in
        let learner : took.replica.learner ≡ replica.learner = ap (λ (x : ReplicaState). x.learner) (sym same) ∙ h.learner in
        let c = counts_promise nodes node k p took.replica took.replica_then took.said is there names took.takes in
        record {
          replica_then = took.replica_then;
          here = took.here_then;
          is = takes_own node nodes took.replica is (input.Message (record { from = k; to = node; message = Promise p })) took.replica_then
              took.said took.takes;
          learner = ap (λ (x : ReplicaState). x.learner) c.leaves ∙ learner;
          acceptor = ap (λ (x : ReplicaState). x.acceptor) c.leaves ∙ (ap (λ (x : ReplicaState). x.acceptor) (sym same) ∙ h.acceptor);
          others = λ j other. took.others j other ∙ h.others j other;
          sends = h.sends ++ took.said.sends;
          frames_ = took.frames_ ∙ (ap (λ (fs : List Envelope). fs ++ took.said.sends) h.frames_
              ∙ append_assoc start.frames h.sends took.said.sends);
          so_far = counted_so k p took.replica took.replica_then took.said h.sends
              (subst (λ (x : ReplicaState). Gathering k x h.sends ⊎ Leading x h.sends) same h.so_far) c there tells.of_the_ballot tells.from
              (subst (λ (s : ℕ). s ≤ p.last) tells.from tells.may_be_said.in_order) learner is;
        }
      where
        same_replica : (m n : ReplicaState) → Some m ≡ Some n → m ≡ n
        same_replica m n e = let same : m ≡ n = cc in same

    passed_on : (k : ℕ) (now : WorldState S) → (Contains members k → ⊥) → CountedBelow k now → CountedBelow (suc k) now
    passed_on k now not h = record {
      replica_then = h.replica_then;
      here = h.here;
      is = h.is;
      learner = h.learner;
      acceptor = h.acceptor;
      others = h.others;
      sends = h.sends;
      frames_ = h.frames_;
      so_far = elim h.so_far [
        | inl g ↦ inl (record {
          set = g.set;
          gathers = g.gathers;
          flags = g.flags;
          counted_ = λ j less among. elim (same_or_not j k) [
            | inl same ↦ absurd (not (subst (λ (i : ℕ). Contains members i) same among))
            | inr other ↦ g.counted_ j (omega (arith, less, other)) among
          ];
          uncounted = λ j less. g.uncounted j (omega (arith, less));
          silent = g.silent;
        })
        | inr l ↦ inr l
      ];
    }

    module _ (willing : (j : ℕ) (m : ReplicaState) → Contains members j → replica_at w j ≡ Some m → refusing m.acceptor.promise ballot ≡ None)
        (of_run : (j : ℕ) (m : ReplicaState) → replica_at w j ≡ Some m → (s : ℕ) (v : Vote Command) → m.acceptor.vote s ≡ Some v
        → v.ballot.node < nodes)
        (here : replica_at start node ≡ Some replica) (is : IsReplicaOf node nodes replica) (gathers : Gathers ballot slot replica no_nodes) where
      counted_none : (now : WorldState S) → HandsOn (node ∷ []) [] start now → CountedBelow zero now
      counted_none now (ends w_) = record {
        replica_then = replica;
        here = here;
        is = is;
        learner = refl;
        acceptor = refl;
        others = λ j _. refl;
        sends = [];
        frames_ = sym (append-nil start.frames);
        so_far = inl (record {
          set = no_nodes;
          gathers = gathers;
          flags = refl;
          counted_ = λ j less _. absurd (omega (arith, less));
          uncounted = λ j _. no_flag 7 j;
          silent = refl;
        });
      }

      counted_answer : (k : ℕ) (e : Envelope) (m : ReplicaState) (mid now : WorldState S) → CountedBelow k mid → k < nodes → Contains members k
          → replica_at w k ≡ Some m → IsAnswer node ballot slot k m e → HandsOn (node ∷ []) (e ∷ []) mid now → CountedBelow (suc k) now
      counted_answer k e m mid now h there among known (declines g same some) hands =
          let never : None ≡ Some g = sym (willing k m among known) ∙ some in absurd cc
      counted_answer k e m mid now h there among known (promises p same none_ tells) (skips e_ es w_ now_ not hands) =
          absurd (not (subst (λ (x : Envelope). Contains (node ∷ []) x.to) (sym same) (in_head node [])))
      counted_answer k e m mid now h there among known (promises p same none_ tells) (takes e_ es w_ new now_ within took (ends last)) =
          counted_promise k p mid now m h there tells
          (promise_names nodes ballot slot m p owner_there (of_run k m known) tells)
          (subst (λ (x : Envelope). Took mid x now) same took)

      pub counted_below : (k : ℕ) (es : List Envelope) → Answers w nodes node members ballot slot k es → k ≤ nodes → (now : WorldState S)
          → HandsOn (node ∷ []) es start now → CountedBelow k now
      counted_below _ _ none within now hands = counted_none now hands
      counted_below _ es (passed k es_ not a) within now hands =
          passed_on k now not (counted_below k es a (omega (arith, within)) now hands)
      counted_below _ _ (answered k es e m among known answer a) within now hands =
          let two = hands_apart (node ∷ []) es (e ∷ []) start now hands in
          counted_answer k e m two.mid now (counted_below k es a (omega (arith, within)) two.mid two.first)
          (omega (arith, within)) among known
          answer two.then

      -- once all of a quorum's have come it leads
      pub has_asked : (es : List Envelope) → Answers w nodes node members ballot slot nodes es → IsMajority nodes (length members)
          → AllPairs ◌≢◌ members → ((m : ℕ) → Contains members m → m < nodes) → (now : WorldState S) → HandsOn (node ∷ []) es start now
          → HasAsked now
      has_asked es a most apart there now hands =
          let h = counted_below nodes es a (omega arith) now hands in
          record {
            replica_then = h.replica_then;
            here_then = h.here;
            is_then = h.is;
            learner = h.learner;
            acceptor = h.acceptor;
            others = h.others;
            sends = h.sends;
            frames_ = h.frames_;
            asks = elim h.so_far [
              | inl g ↦
                  let all : is_most nodes g.set ≡ true = cannot_gather nodes members g.set most apart there
                  (λ m among. g.counted_ m (there m among) among) in
                  let few_ : is_most nodes g.set ≡ false =
                  subst (λ (n : ℕ). is_most n g.set ≡ false) h.is.proposer.1 g.gathers.too_few in
                  absurd cc
              | inr l ↦ l.asks
            ];
          }
