-- The third phase of a round: the members vote for what the node asks for, and tell all nodes.
use Rattle.std.proofs.Common.{◌≡◌, inl, inr, ℕ, zero, suc, ◌<◌, ◌≤◌, List, [], ◌∷◌, ◌++◌, All, Contains, false, Option, Some, None, refl}
use Rattle.std.proofs.Common.{sym, ap, subst, ◌∙◌, arith}
use Rattle.std.specs.Prelude.{nat_lt, unwrap_or}
use Rattle.std.proofs.lemmas.List.{append_assoc, append-nil}
use Rattle.std.proofs.lemmas.List.Elements.{All-tail, All-head}
use Rattle.synod.specs.Ballots.{rank}
use Rattle.synod.specs.declared.ballot.Ballot.{Ballot}
use Rattle.synod.specs.declared.vote.Vote.{Vote}
use Rattle.sessions.specs.declared.command.Command.{Command}
use Rattle.acceptor.specs.Accepting.{Accepting, Verdict, refusing, turned_away, accept_answer}
use Rattle.acceptor.proofs.VerdictLemmas.{taken_where}
use Rattle.acceptor.specs.declared.answer.Answer.{Answer}
use Rattle.acceptor.specs.declared.answer.Answer.TheVariants as answer
use Rattle.wire.specs.declared.frames.envelope.Envelope.{Envelope}
use Rattle.wire.specs.declared.frames.message.Message.TheVariants.{Accept, Accepted}
use Rattle.node_model.specs.Loading.{IsReplicaOf}
use Rattle.node_model.specs.Replicas.{ReplicaState, promised}
use Rattle.node_model.specs.Outputs.{Response}
use Rattle.node_model.specs.Sending.{to_all, answer_sends}
use Rattle.node_model.specs.Inputs.{role_of}
use Rattle.node_model.specs.Inputs.Role.{Acceptor, Learner, Fetcher}
use Rattle.node_model.specs.Taking.{Takes, TakesMessage}
use Rattle.node_model.specs.declared.input.Input.TheVariants as input
use Rattle.node_model.proofs.Members.{takes_own}
use Rattle.world_model.specs.Progress.{replica_at}
use Rattle.world_model.specs.Worlds.{WorldState}
use Rattle.world_model.proofs.Progress.Handing.{Took, HandsOn, ends, skips, takes, hands_apart, same_or_not}
use Rattle.world_model.proofs.Progress.Hearing.{same_learner}
use Rattle.world_model.proofs.Progress.Leading.{AsksForVote}
use Rattle.world_model.proofs.Progress.RoundAsked.{takes_message, it_concerns, is_below, MaySpeak}

-- ---- a member that has promised the ballot votes
not_refused : (ballot : Ballot) (o : Option Ballot) → o ≡ Some ballot → refusing o ballot ≡ None
not_refused ballot o same =
    let not : nat_lt (rank ballot) (rank ballot) ≡ false = grind (arith) in
    ap (λ (x : Option Ballot). refusing x ballot) same ∙ (rw not refl)

votes_so : (a : Accepting) (v : Vote Command) → a.floor ≤ v.slot → refusing a.promise v.ballot ≡ None
    → accept_answer a v ≡ answer.Accepted v
votes_so a v level none =
    ap (λ (x : Verdict). unwrap_or (turned_away x v.ballot) (answer.Accepted v)) (taken_where a v.ballot v.slot level none)

-- it tells all nodes, and has learnt what it had
pub record HasVoted (nodes from : ℕ) (v : Vote Command) (m new : ReplicaState) (said : Response) : Type 0 where
  pub sends : said.sends ≡ to_all from nodes (Accepted v)
  pub learner : new.learner ≡ m.learner

pub voted_for : (nodes node from : ℕ) (v : Vote Command) (m new : ReplicaState) (said : Response) → IsReplicaOf from nodes m → node < nodes
    → v.ballot.node < nodes → m.acceptor.floor ≤ v.slot → promised m ≡ Some v.ballot
    → Takes m (input.Message (record { from = node; to = from; message = Accept v })) new said → HasVoted nodes from v m new said
voted_for nodes node from v m new said is node_there owner_there level has h =
    let e : Envelope = record { from = node; to = from; message = Accept v } in
    let t : TakesMessage m node (Accept v) new said =
    takes_message m e new said (it_concerns from nodes m e is refl node_there (is_below v.ballot.node nodes owner_there)) h in
    record {
      sends = ap (λ (r : Response). r.sends) t.1
          ∙ (ap (λ (a : Answer). answer_sends m.id m.nodes node a)
          (votes_so m.acceptor v level (not_refused v.ballot m.acceptor.promise has))
          ∙ (ap (λ (i : ℕ). to_all i m.nodes (Accepted v)) is.number ∙ ap (λ (n : ℕ). to_all from n (Accepted v)) is.of_all));
      learner = ap (λ (x : ReplicaState). x.learner) t.0;
    }

-- ---- all of them do, in order of their numbers
module _ {S : Type 0} (w : WorldState S) (nodes node : ℕ) (members : List ℕ) (v : Vote Command) where
  -- what the members below a number tell of their votes
  pub data Votes : ℕ → List Envelope → Type 0 where
    no_votes : Votes zero []
    passed_vote : (k : ℕ) (es : List Envelope) → (Contains members k → ⊥) → Votes k es → Votes (suc k) es
    told_vote : (k : ℕ) (es : List Envelope) → Contains members k → Votes k es → Votes (suc k) (es ++ to_all k nodes (Accepted v))

  -- the node is up, and has learnt what it had
  pub record LearnsAs (replica : ReplicaState) (now : WorldState S) : Type 0 where
    pub replica_then : ReplicaState
    pub here : replica_at now node ≡ Some replica_then
    pub is : IsReplicaOf node nodes replica_then
    pub learner : replica_then.learner ≡ replica.learner

  pub record VotedBelow (replica : ReplicaState) (k : ℕ) (now : WorldState S) : Type 0 where
    pub votes : List Envelope
    pub are : Votes k votes
    pub frames_ : now.frames ≡ w.frames ++ votes
    pub later : (j : ℕ) → k ≤ j → replica_at now j ≡ replica_at w j
    pub learns : LearnsAs replica now

  abbrev accept_to : ℕ → Envelope
  accept_to k = record { from = node; to = k; message = Accept v }

  same_replica : (m n : ReplicaState) → Some m ≡ Some n → m ≡ n
  same_replica m n e = let same : m ≡ n = cc in same

  -- a step of another node, or one that leaves the node what it has learnt
  learns_on : (replica : ReplicaState) (old : WorldState S) (e : Envelope) (new : WorldState S) → LearnsAs replica old → (took : Took old e new)
      → took.replica_then.learner ≡ took.replica.learner → LearnsAs replica new
  learns_on replica old e new h took same = elim (same_or_not node e.to) [
    | inl here ↦
        let before : h.replica_then ≡ took.replica =
        same_replica h.replica_then took.replica (sym h.here ∙ (ap (λ (i : ℕ). replica_at old i) here ∙ took.here)) in
        record {
          replica_then = took.replica_then;
          here = ap (λ (i : ℕ). replica_at new i) here ∙ took.here_then;
          is = takes_own node nodes took.replica (subst (λ (x : ReplicaState). IsReplicaOf node nodes x) before h.is) (input.Message e) took.replica_then
              took.said took.takes;
          learner = same ∙ (ap (λ (x : ReplicaState). x.learner) (sym before) ∙ h.learner);
        }
    | inr other ↦ record {
      replica_then = h.replica_then;
      here = took.others node other ∙ h.here;
      is = h.is;
      learner = h.learner;
    }
  ]

  module _ (node_there : node < nodes) (owner_there : v.ballot.node < nodes)
      (known : (j : ℕ) (m : ReplicaState) → replica_at w j ≡ Some m → IsReplicaOf j nodes m)
      (level : MaySpeak w members v.slot)
      (has : (j : ℕ) (m : ReplicaState) → Contains members j → replica_at w j ≡ Some m → promised m ≡ Some v.ballot)
      (replica : ReplicaState) (here : replica_at w node ≡ Some replica) where
    voted_none : (now : WorldState S) → HandsOn members [] w now → VotedBelow replica zero now
    voted_none now (ends w_) = record {
      votes = [];
      are = no_votes;
      frames_ = sym (append-nil w.frames);
      later = λ j _. refl;
      learns = record { replica_then = replica; here = here; is = known node replica here; learner = refl };
    }

    voted_another : (k : ℕ) (now : WorldState S) → (Contains members k → ⊥) → VotedBelow replica k now → VotedBelow replica (suc k) now
    voted_another k now not h = record {
      votes = h.votes;
      are = passed_vote k h.votes not h.are;
      frames_ = h.frames_;
      later = λ j less. h.later j (omega (arith, less));
      learns = h.learns;
    }

    voted_member : (k : ℕ) (mid now : WorldState S) → Contains members k → VotedBelow replica k mid → Took mid (accept_to k) now
        → VotedBelow replica (suc k) now
    voted_member k mid now among h took =
        let before : replica_at w k ≡ Some took.replica = sym (h.later k (omega arith)) ∙ took.here in
        let a = voted_for nodes node k v took.replica took.replica_then took.said (known k took.replica before) node_there owner_there
        (level k took.replica among before) (has k took.replica among before) took.takes in
        record {
          votes = h.votes ++ to_all k nodes (Accepted v);
          are = told_vote k h.votes among h.are;
          frames_ = took.frames_ ∙ (ap (λ (es : List Envelope). mid.frames ++ es) a.sends
              ∙ (ap (λ (fs : List Envelope). fs ++ to_all k nodes (Accepted v)) h.frames_
              ∙ append_assoc w.frames h.votes (to_all k nodes (Accepted v))));
          later = λ j less. took.others j (λ same. omega (arith, less, same)) ∙ h.later j (omega (arith, less));
          learns = learns_on replica mid (accept_to k) now h.learns took a.learner;
        }

    voted_next : (k : ℕ) (mid now : WorldState S) → VotedBelow replica k mid → HandsOn members (accept_to k ∷ []) mid now
        → VotedBelow replica (suc k) now
    voted_next k mid now h (skips e es w_ now_ not (ends last)) = voted_another k mid not h
    voted_next k mid now h (takes e es w_ new now_ among took (ends last)) = voted_member k mid now among h took

    pub voted_below : (k : ℕ) (now : WorldState S) → HandsOn members (to_all node k (Accept v)) w now → VotedBelow replica k now
    voted_below zero now hands = voted_none now hands
    voted_below (suc k) now hands =
        let two = hands_apart members (to_all node k (Accept v)) (accept_to k ∷ []) w now hands in
        voted_next k two.mid now (voted_below k two.mid two.first) two.then

  -- ---- what else the node asks for
  -- who is asked for a vote learns nothing by it
  no_news : (e : Envelope) (m new : ReplicaState) (said : Response) → AsksForVote e → Takes m (input.Message e) new said
      → new.learner ≡ m.learner
  no_news e m new said asks h =
      same_learner m e new said (λ is. let clash : Acceptor ≡ Learner = ap role_of (sym asks.1) ∙ is in cc)
      (λ is. let clash : Acceptor ≡ Fetcher = ap role_of (sym asks.1) ∙ is in cc) h

  pub learns_no_more : (replica : ReplicaState) (es : List Envelope) → All AsksForVote es → (old new : WorldState S) → HandsOn members es old new
      → LearnsAs replica old → LearnsAs replica new
  learns_no_more replica _ all old new (ends w_) h = h
  learns_no_more replica _ all old new (skips e es w_ new_ not hands) h =
      learns_no_more replica es (All-tail AsksForVote e es all) old new hands h
  learns_no_more replica _ all old new (takes e es w_ mid new_ among took hands) h =
      learns_no_more replica es (All-tail AsksForVote e es all) mid new hands
      (learns_on replica old e mid h took (no_news e took.replica took.replica_then took.said (All-head AsksForVote e es all) took.takes))
