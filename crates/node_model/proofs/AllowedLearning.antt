-- What a node makes of news by which it may learn a command is allowed.
use Rattle.std.proofs.Common.{◌≡◌, ℕ, suc, ◌<◌, ◌≤◌, List, [], ◌∷◌, ◌++◌, map, inr, Option, Some, None, refl, sym, ap, ◌∙◌, subst, append-nil}
use Rattle.std.proofs.Common.{arith}
use Rattle.std.proofs.lemmas.List.{map-append}
use Rattle.synod.specs.declared.vote.Vote.{Vote}
use Rattle.synod.specs.Records.{put}
use Rattle.synod.specs.Acts as act
use Rattle.synod.specs.Acts.{Membership, Local, Does}
use Rattle.synod.proofs.Doing.{does_nothing, does_then}
use Rattle.synod.proofs.Puts.{put_same}
use Rattle.sessions.specs.declared.submission.Submission.{Submission}
use Rattle.sessions.specs.declared.command.Command.{Command}
use Rattle.sessions.specs.declared.command.Command.TheVariants.{NoOp, Request}
use Rattle.learner.specs.Learning.{Learning, prefix, HearsVote, HearsDecided}
use Rattle.learner.specs.Learning.HearsVote.{ignores, hears, learns}
use Rattle.learner.specs.Learning.HearsDecided.{ignores_decided, learns_decided}
use Rattle.learner.specs.declared.learned.Learned.{Learned}
use Rattle.learner.specs.Protocol.{LearnerMayLearn, learnt_by}
use Rattle.learner.proofs.AllowedLemmas.{allows_vote, allows_decided}
use Rattle.learner.proofs.PrefixLemmas.{vote_grows, decided_grows}
use Rattle.proposer.specs.Proposing.{Proposing, after_learned}
use Rattle.proposer.specs.Protocol.{ProposerStands, MayHold, frames_of_all}
use Rattle.proposer.proofs.AllowedClosing.{learned_lem}
use Rattle.proposer.proofs.AllowedMoves.{execution_lem, advance_lem}
use Rattle.wire.specs.declared.frames.envelope.Envelope.{Envelope}
use Rattle.wire.specs.declared.frames.message.Message.TheVariants.{Accepted, Decided}
use Rattle.node_model.specs.Executing.{Executing, executing, executed}
use Rattle.node_model.specs.Fetching.{still_fetched}
use Rattle.node_model.specs.Replicas.{ReplicaState, position}
use Rattle.node_model.specs.Outputs.{Response, silence}
use Rattle.node_model.specs.Protocol.{membership, message_of, frame_of, ReplicaStands, MayComeTo}
use Rattle.node_model.specs.Sending.{ask_sends}
use Rattle.node_model.specs.Taking.{HearsOfVote, HearsOfDecided, Hears, Learns, executing_of, execution, news, proposer_of, after_news, proposer_sends}
use Rattle.node_model.proofs.AllowedSends.{ArePlainFrom, proposer_frames, are_plain, says_sends}
use Rattle.node_model.proofs.AllowedGoing.{MayGo, machine_changed, fetching_changed, goes_then, goes_saying, goes_holding}
use Rattle.node_model.proofs.AllowedCases.{goes_proposing}
use Rattle.node_model.proofs.Saying.{asks_one}

-- ---- what is executed waits no more
module _ (f : Membership Command) (i : ℕ) (in' : act.Input Command) (p : Proposing) where
  -- with these requests that wait
  abbrev waiting_at : List Submission → Proposing
  waiting_at rs = record p { waiting = rs }

  pub holds_then : (x : Local Command) (q : Proposing) (first : MayHold f i in' x q) (r : Proposing)
      → MayHold f i in' (record x { replica = record x.replica { campaign = first.campaign } }) r → MayHold f i in' x r
  holds_then x q first r next = record {
    campaign = next.campaign;
    does = does_then f i in' first.does next.does;
    stands = next.stands;
  }

  pub execution_holds : (cs : List Command) (e : Executing) (slot : ℕ) (x : Local Command) → ProposerStands (waiting_at e.waiting) x
      → MayHold f i in' x (waiting_at (executed e slot cs).waiting)
  execution_holds [] e slot x h = record { campaign = x.replica.campaign; does = does_nothing f i in' x; stands = h }
  execution_holds (NoOp ∷ cs) e slot x h = execution_holds cs (executing e slot NoOp) (suc slot) x h
  execution_holds (Request r ∷ cs) e slot x h =
      let first = execution_lem f i in' x (waiting_at e.waiting) r.client r.number h in
      holds_then x _ first (waiting_at (executed (executing e slot (Request r)) (suc slot) cs).waiting)
      (execution_holds cs (executing e slot (Request r)) (suc slot)
      (record x { replica = record x.replica { campaign = first.campaign } }) first.stands)

-- ---- the learner has heard some news
-- node i may come to where the learner stands so, and the log is executed as far as it has learnt
pub record HasHeard (nodes i : ℕ) (in' : act.Input Command) (x : Local Command) (old : ReplicaState) (l : Learning) (c : Command)
    (learned : Option Learned) : Type 0 where
  pub after : Local Command
  pub does : Does (membership nodes) i in' x after
  pub stands : ReplicaStands (record old { learner = l }) after
  pub sent : after.sent ≡ x.sent
  pub learnt : after.learnt ≡ x.learnt ++ learnt_by i c learned
  pub submitted : after.submitted ≡ x.submitted

heard_lem : (nodes i : ℕ) (in' : act.Input Command) (x : Local Command) (old : ReplicaState) (l : Learning) (c : Command) (learned : Option Learned)
    → ReplicaStands old x → position old ≤ prefix l → LearnerMayLearn (membership nodes) i in' x c learned l → HasHeard nodes i in' x old l c learned
heard_lem nodes i in' x old l c learned s grows h =
    let y : Local Command = record x {
      replica = record x.replica { learnt = h.learnt; heard = h.heard };
      learnt = x.learnt ++ learnt_by i c learned;
    } in
    let proposer : ProposerStands old.proposer y =
    record { round = s.proposer.round; campaign = s.proposer.campaign; waiting = s.proposer.waiting } in
    let up : y.replica.position ≤ prefix l = subst (λ (n : ℕ). n ≤ prefix l) (sym s.position_) grows in
    let next = advance_lem (membership nodes) i in' y old.proposer (prefix l) up proposer in
    record {
      after = record y { replica = record y.replica { position = prefix l } };
      does = does_then (membership nodes) i in' h.does next.does;
      stands = record {
        records = s.records;
        learner = record { learnt = h.stands.learnt; heard = h.stands.heard };
        proposer = next.stands;
        position_ = refl;
        level = omega (arith, s.level, grows);
      };
      sent = refl;
      learnt = refl;
      submitted = refl;
    }

-- what is newly learnt is there
vote_there : (old l : Learning) (from : ℕ) (v : Vote Command) (n : Learned) → HearsVote old from v (Some n) l
    → l.learnt n.slot ≡ Some v.command
vote_there old l from v n (ignores never none same) = absurd (cc)
vote_there old l from v n (hears counts few none same) = absurd (cc)
vote_there old l from v n (learns counts most is same) =
    let at : n.slot ≡ v.slot = (let e : n ≡ record { slot = v.slot } = cc in ap (λ (m : Learned). m.slot) e) in
    ap (λ (k : Learning). k.learnt n.slot) same ∙ ap (λ (s : ℕ). put old.learnt v.slot (Some v.command) s) at
    ∙ put_same old.learnt v.slot (Some v.command)

decided_there : (old l : Learning) (slot : ℕ) (c : Command) (n : Learned) → HearsDecided old slot c (Some n) l → l.learnt n.slot ≡ Some c
decided_there old l slot c n (ignores_decided never none same) = absurd (cc)
decided_there old l slot c n (learns_decided open' is same) =
    let at : n.slot ≡ slot = (let e : n ≡ record { slot = slot } = cc in ap (λ (m : Learned). m.slot) e) in
    ap (λ (k : Learning). k.learnt n.slot) same ∙ ap (λ (s : ℕ). put old.learnt slot (Some c) s) at ∙ put_same old.learnt slot (Some c)

-- ---- and the node goes on from there
module _ (old : ReplicaState) (some_node : 1 ≤ old.nodes) (in' : act.Input Command) (x : Local Command) (l : Learning) (c : Command)
    (asks : List Envelope) (plain : ArePlainFrom old.id asks) (new : ReplicaState) (said : Response) where
  abbrev with_news : ReplicaState
  with_news = record old { learner = l }

  -- the slot's proposal is closed, what was executed waits no more, the proposer proposes, and questions are asked
  abbrev Goes : Local Command → ℕ → Type 0
  Goes y slot =
      MayGo old.nodes old.id in' y (record with_news { proposer = (after_news old slot l).0 })
      (frames_of_all old.id old.nodes (after_news old slot l).1 ++ map frame_of asks)

  goes_on : (y : Local Command) (slot : ℕ) → ReplicaStands with_news y → l.learnt slot ≡ Some c → Goes y slot
  goes_on y slot s there =
      let closed : Proposing = after_learned old.proposer slot in
      let first : MayGo old.nodes old.id in' y (record with_news { proposer = closed }) [] =
      goes_holding old.nodes old.id in' y with_news closed s
      (learned_lem (membership old.nodes) old.id in' y old.proposer slot (inr (c, s.learner.learnt slot ∙ there)) s.proposer) in
      let then : Proposing = proposer_of old slot (execution old l) in
      let next : MayGo old.nodes old.id in' first.after (record with_news { proposer = then }) [] =
      goes_holding old.nodes old.id in' first.after (record with_news { proposer = closed }) then first.stands
      (execution_holds (membership old.nodes) old.id in' closed (news old l) (executing_of old []) (position old) first.after
      first.stands.proposer) in
      let proposer : MayGo old.nodes old.id in' next.after (record with_news { proposer = (after_news old slot l).0 })
      (frames_of_all old.id old.nodes (after_news old slot l).1) =
      goes_proposing old.nodes old.id in' next.after (record with_news { proposer = then }) some_node next.stands in
      let asking : MayGo old.nodes old.id in' proposer.after (record with_news { proposer = (after_news old slot l).0 })
      (map frame_of asks) =
      goes_saying old.nodes old.id in' proposer.after _ (map frame_of asks) proposer.stands
      (says_sends (membership old.nodes) old.id in' proposer.after asks plain) in
      goes_then old.nodes old.id in' y _ _ [] _ first
      (goes_then old.nodes old.id in' first.after _ _ [] _ next
      (goes_then old.nodes old.id in' next.after _ _ _ _ proposer asking))

  -- a command is newly learnt
  learns_lem : (n : Learned) → HasHeard old.nodes old.id in' x old l c (Some n) → l.learnt n.slot ≡ Some c
      → Learns old n.slot c l asks new said → MayComeTo old.nodes old.id in' [] x new said
  learns_lem n h there k =
      let g : Goes h.after n.slot = goes_on h.after n.slot h.stands there in
      let frames = frames_of_all old.id old.nodes (after_news old n.slot l).1 ++ map frame_of asks in
      let same : map frame_of (proposer_sends old (after_news old n.slot l) ++ asks) ≡ frames =
      map-append frame_of (proposer_sends old (after_news old n.slot l)) asks
      ∙ ap (λ fs. fs ++ map frame_of asks) (proposer_frames old.id old.nodes (after_news old n.slot l).1) in
      subst (λ (m : ReplicaState). MayComeTo old.nodes old.id in' [] x m said) (sym k.leaves)
      (subst (MayComeTo old.nodes old.id in' [] x (record old {
        learner = l;
        proposer = (after_news old n.slot l).0;
        machine = (execution old l).machine;
        fetching = still_fetched (prefix l) old.fetching;
      })) (sym k.says) (record {
        after = g.after;
        does = does_then (membership old.nodes) old.id in' h.does g.does;
        stands = fetching_changed _ g.after (still_fetched (prefix l) old.fetching)
            (machine_changed (record with_news { proposer = (after_news old n.slot l).0 }) g.after (execution old l).machine g.stands);
        sent = g.sent_ ∙ ap (λ fs. fs ++ frames) h.sent ∙ ap (λ fs. x.sent ++ fs) (sym same);
        learnt = g.learnt ∙ h.learnt;
        submitted = g.submitted ∙ h.submitted ∙ sym (append-nil x.submitted);
      }))

  -- or none is
  learns_none : HasHeard old.nodes old.id in' x old l c None → new ≡ with_news → said ≡ silence
      → MayComeTo old.nodes old.id in' [] x new said
  learns_none h leaves says =
      subst (λ (m : ReplicaState). MayComeTo old.nodes old.id in' [] x m said) (sym leaves)
      (subst (MayComeTo old.nodes old.id in' [] x with_news) (sym says) (record {
        after = h.after;
        does = h.does;
        stands = h.stands;
        sent = h.sent ∙ sym (append-nil x.sent);
        learnt = h.learnt;
        submitted = h.submitted ∙ sym (append-nil x.submitted);
      }))

  hears_lem : (learned : Option Learned) → HasHeard old.nodes old.id in' x old l c learned
      → ((n : Learned) → learned ≡ Some n → l.learnt n.slot ≡ Some c)
      → Hears old c learned l asks new said → MayComeTo old.nodes old.id in' [] x new said
  hears_lem None h there k = learns_none h k.0 k.1
  hears_lem (Some n) h there k = learns_lem n h (there n refl) k

-- ---- each news
module _ (old new : ReplicaState) (said : Response) (x : Local Command) (stands : ReplicaStands old x) (some_node : 1 ≤ old.nodes) where
  pub vote_case : (from : ℕ) (v : Vote Command) → old.nodes ≡ old.learner.nodes → HearsOfVote old from v new said
      → MayComeTo old.nodes old.id (act.Came from (message_of (Accepted v))) [] x new said
  vote_case from v of_all (learned, l, hears_, k) =
      let in' : act.Input Command = act.Came from (message_of (Accepted v)) in
      hears_lem old some_node in' x l v.command [] tt new said learned
      (heard_lem old.nodes old.id in' x old l v.command learned stands (vote_grows old.learner l from v learned hears_)
      (allows_vote (membership old.nodes) old.id x old.learner stands.learner from v of_all learned l hears_))
      (λ n is. vote_there old.learner l from v n (subst (λ (o : Option Learned). HearsVote old.learner from v o l) is hears_)) k

  pub decided_case : (from slot : ℕ) (c : Command) → from < old.nodes → HearsOfDecided old from slot c new said
      → MayComeTo old.nodes old.id (act.Came from (message_of (Decided slot c))) [] x new said
  decided_case from slot c sender (learned, l, hears_, k) =
      let in' : act.Input Command = act.Came from (message_of (Decided slot c)) in
      hears_lem old some_node in' x l c (ask_sends old.id from (prefix l)) (are_plain old _ (asks_one old from (prefix l) sender)) new said learned
      (heard_lem old.nodes old.id in' x old l c learned stands (decided_grows old.learner l slot c learned hears_)
      (allows_decided (membership old.nodes) old.id x old.learner stands.learner in' slot c refl learned l hears_))
      (λ n is. decided_there old.learner l slot c n (subst (λ (o : Option Learned). HearsDecided old.learner slot c o l) is hears_)) k
