-- What a node makes of an input by which it learns nothing is allowed.
use Rattle.std.proofs.Common.{◌≡◌, ℕ, ◌<◌, ◌≤◌, List, [], ◌∷◌, ◌++◌, map, refl, sym, ap, ◌∙◌, subst, append-nil, append_assoc, arith}
use Rattle.std.proofs.Common.{le_refl, Option, Some}
use Rattle.std.proofs.lemmas.Bool.{cond_both}
use Rattle.std.proofs.lemmas.List.{map-append}
use Rattle.synod.specs.Acts as act
use Rattle.synod.specs.Acts.{Local}
use Rattle.synod.proofs.Doing.{does_one, does_then}
use Rattle.sessions.specs.declared.submission.Submission.{Submission}
use Rattle.sessions.specs.declared.command.Command.{Command}
use Rattle.sessions.specs.declared.command.Command.TheVariants.{Request}
use Rattle.acceptor.specs.Accepting.{Accepting}
use Rattle.acceptor.specs.Protocol.{MayWrite, answer_frames}
use Rattle.acceptor.specs.declared.answer.Answer.{Answer}
use Rattle.acceptor.proofs.AllowedLemmas.{prepare_answers, accept_answers}
use Rattle.acceptor.proofs.VerdictLemmas.{floor_prepared, floor_accepted}
use Rattle.learner.specs.Learning.{learnt_at}
use Rattle.proposer.specs.Proposing.{Proposing, StartsCampaign, with_promised, after_nack, sends_again}
use Rattle.proposer.specs.Protocol.{MayHold, submitting, frames_of, frames_of_all}
use Rattle.proposer.specs.declared.sends.Outgoing.{Outgoing}
use Rattle.proposer.proofs.AllowedMoves.{timeout_lem, nack_lem}
use Rattle.proposer.proofs.AllowedPromise.{promise_lem}
use Rattle.proposer.proofs.AllowedPropose.{propose_lem}
use Rattle.proposer.proofs.AllowedTick.{tick_lem, submit_last_lem, submit_again_lem}
use Rattle.wire.specs.Promises.{Promised}
use Rattle.wire.specs.declared.frames.envelope.Envelope.{Envelope}
use Rattle.wire.specs.declared.frames.message.Message.TheVariants.{Promise, Decided}
use Rattle.node_model.specs.Fetching.{Fetching}
use Rattle.node_model.specs.Replicas.{ReplicaState, position, waits}
use Rattle.node_model.specs.Outputs.{Response, sent, silence}
use Rattle.node_model.specs.Protocol.{membership, message_of, frame_of, ReplicaStands, MayComeTo}
use Rattle.node_model.specs.Sending.{to_one, envelopes_of, answer_sends}
use Rattle.node_model.specs.Taking.{proposer_sends, with_proposer, proposed, begins_to_lead, after_promise, with_request, after_submit}
use Rattle.node_model.proofs.AllowedSends.{outgoing_frames, proposer_frames, answered_frames, are_plain, says_sends}
use Rattle.node_model.proofs.AllowedGoing.{MayGo, proposer_changed, stays, goes_then, goes_saying, goes_fetching, goes_answering, goes_holding}
use Rattle.node_model.proofs.AllowedGoing.{goes_writing, checkpoint_written, trim_written, goes_sending, goes_to}
use Rattle.node_model.proofs.Saying.{PlainSends, Answers, WritesAlone, Proposes}
use Rattle.node_model.proofs.Saying.Answers.{to_prepare, to_accept}
use Rattle.node_model.proofs.Saying.WritesAlone.{checkpoint, trim}
use Rattle.node_model.proofs.Saying.Proposes.{counts, gives_way, is_asked, campaigns, repeats}

-- ---- a proposer proposes
pub goes_proposing : (nodes i : ℕ) (in' : act.Input Command) (x : Local Command) (m : ReplicaState) → 1 ≤ nodes → ReplicaStands m x
    → MayGo nodes i in' x (record m { proposer = (proposed m.proposer m.learner).0 })
    (frames_of_all i nodes (proposed m.proposer m.learner).1)
goes_proposing nodes i in' x m some_node s =
    goes_sending nodes i in' x m (proposed m.proposer m.learner).0 (frames_of_all i nodes (proposed m.proposer m.learner).1) s
    (propose_lem (membership nodes) i in' x m.proposer m.learner nodes refl some_node s.position_ s.learner s.proposer)

module _ (old new : ReplicaState) (said : Response) (x : Local Command) (stands : ReplicaStands old x) where
  abbrev May : act.Input Command → Type 0
  May in' = MayComeTo old.nodes old.id in' [] x new said

  -- ---- questions, and what answers them
  -- safety says nothing of them, nor of what is fetched
  pub tells_case : (in' : act.Input Command) (f : Option Fetching) (sends : List Envelope) → PlainSends old sends
      → new ≡ record old { fetching = f } → said ≡ sent sends → May in'
  tells_case in' f sends plain leaves says =
      goes_to old.nodes old.id in' x (record old { fetching = f }) new said sends (map frame_of sends) leaves says refl
      (goes_fetching old.nodes old.id in' x old f (map frame_of sends)
      (goes_saying old.nodes old.id in' x old (map frame_of sends) stands
      (says_sends (membership old.nodes) old.id in' x sends (are_plain old sends plain))))

  -- what is learnt may be reported
  pub reports_case : (in' : act.Input Command) (to slot : ℕ) (c : Command) → learnt_at old.learner slot ≡ Some c → new ≡ old
      → said ≡ sent (to_one old.id to (Decided slot c)) → May in'
  reports_case in' to slot c learnt leaves says =
      goes_to old.nodes old.id in' x old new said (to_one old.id to (Decided slot c)) _ leaves says refl
      (goes_saying old.nodes old.id in' x old _ stands
      (does_one (membership old.nodes) old.id in' x (act.Reports to slot c) (stands.learner.learnt slot ∙ learnt)))

  -- ---- the acceptor
  pub answers_case : (in' : act.Input Command) (to : ℕ) (a : Accepting) (answer : Answer) → Answers old to in' a answer
      → new ≡ record old { acceptor = a } → said ≡ sent (answer_sends old.id old.nodes to answer) → May in'
  answers_case in' to a answer h leaves says =
      goes_to old.nodes old.id in' x (record old { acceptor = a }) new said (answer_sends old.id old.nodes to answer) _ leaves says
      (answered_frames old.id old.nodes to answer) (goes in' a answer h)
    where
      goes : (in' : act.Input Command) (a : Accepting) (answer : Answer) → Answers old to in' a answer
          → MayGo old.nodes old.id in' x (record old { acceptor = a }) (answer_frames old.id old.nodes to answer)
      goes in' a answer (to_prepare ballot first _ h) =
          goes_answering old.nodes old.id in' x old a _ stands (floor_prepared old.acceptor ballot first)
          (prepare_answers (membership old.nodes) old.id in' x old.acceptor old.proposer.round stands.records old.nodes to first ballot
          answer h)
      goes in' a answer (to_accept v) =
          goes_answering old.nodes old.id in' x old a _ stands (floor_accepted old.acceptor v)
          (accept_answers (membership old.nodes) old.id in' x old.acceptor old.proposer.round stands.records old.nodes to v refl)

  -- it writes, and nothing is said
  silent_case : (a : Accepting) → new ≡ record old { acceptor = a } → said ≡ silence → a.floor ≤ position old
      → MayWrite (membership old.nodes) old.id act.Nothing x a old.proposer.round → May act.Nothing
  silent_case a leaves says low h =
      goes_to old.nodes old.id act.Nothing x _ new said [] [] leaves says refl
      (goes_writing old.nodes old.id act.Nothing x old a stands low h)

  pub writes_case : (a : Accepting) → WritesAlone old a → new ≡ record old { acceptor = a } → said ≡ silence → May act.Nothing
  writes_case a checkpoint leaves says =
      silent_case a leaves says (le_refl (position old)) (checkpoint_written old.nodes old.id act.Nothing x old stands)
  writes_case a trim leaves says =
      silent_case a leaves says stands.level (trim_written old.nodes old.id act.Nothing x old stands)

  -- ---- the proposer
  -- it comes to this, says what a proposer sends, and submits this
  abbrev Proposed : act.Input Command → List Command → Proposing × List Outgoing → Type 0
  Proposed in' submits p = MayComeTo old.nodes old.id in' submits x (with_proposer old p) (sent (proposer_sends old p))

  -- it comes to this from the one local, and sends this
  abbrev GoesTo : act.Input Command → Local Command → Proposing × List Outgoing → Type 0
  GoesTo in' y p = MayGo old.nodes old.id in' y (record old { proposer = p.0 }) (frames_of_all old.id old.nodes p.1)

  proposed_so : (in' : act.Input Command) (p : Proposing × List Outgoing) → GoesTo in' x p → Proposed in' [] p
  proposed_so in' p g =
      goes_to old.nodes old.id in' x (with_proposer old p) (with_proposer old p) (sent (proposer_sends old p)) (proposer_sends old p) _
      refl refl (proposer_frames old.id old.nodes p.1) g

  module _ (some_node : 1 ≤ old.nodes) (few : old.nodes ≤ 7) (own : old.proposer.id ≡ old.id) (of_all : old.nodes ≡ old.proposer.nodes)
    where
      counts_goes : (in' : act.Input Command) (from : ℕ) (p : Promised) → from < old.nodes → in' ≡ act.Came from (message_of (Promise p))
          → GoesTo in' x (after_promise old from p)
      counts_goes in' from p sender is =
          let q : Proposing = with_promised old.proposer from p in
          let first : MayGo old.nodes old.id in' x (record old { proposer = q }) [] =
          goes_holding old.nodes old.id in' x old q stands
          (subst (λ (j : act.Input Command). MayHold (membership old.nodes) old.id j x q) (sym is)
          (promise_lem (membership old.nodes) old.id from x old.proposer p of_all (omega (arith, few, sender)) stands.proposer)) in
          cond_both (begins_to_lead old.proposer q) (proposed q old.learner) (q, []) (GoesTo in' x)
          (λ _. goes_then old.nodes old.id in' x (record old { proposer = q }) _ [] _ first
          (goes_proposing old.nodes old.id in' first.after (record old { proposer = q }) some_node first.stands))
          (λ _. first)

      is_asked_goes : (r : Submission) → Proposed act.Nothing (Request r ∷ []) (after_submit old r)
      is_asked_goes r =
          let y : Local Command = submitting x r in
          let again = submit_again_lem (membership old.nodes) old.id act.Nothing x old.proposer r stands.proposer in
          let last = submit_last_lem (membership old.nodes) old.id act.Nothing x old.proposer r stands.proposer in
          let more : ReplicaState = record old { proposer = with_request old.proposer r } in
          let both : GoesTo act.Nothing y (after_submit old r) =
          cond_both (waits old r.client r.number) (old.proposer, []) (proposed (with_request old.proposer r) old.learner)
          (GoesTo act.Nothing y)
          (λ _. stays old.nodes old.id act.Nothing y old
          (proposer_changed old x old.proposer y stands again.stands refl refl refl refl refl refl))
          (λ _. goes_proposing old.nodes old.id act.Nothing y more some_node
          (proposer_changed old x (with_request old.proposer r) y stands last.stands refl refl refl refl refl refl)) in
          record {
            after = both.after;
            does = does_then (membership old.nodes) old.id act.Nothing again.does both.does;
            stands = both.stands;
            sent = both.sent_ ∙ ap (λ l. x.sent ++ l) (sym (proposer_frames old.id old.nodes (after_submit old r).1));
            learnt = both.learnt ∙ sym (append-nil x.learnt);
            submitted = both.submitted;
          }

      campaign_goes : (p : Proposing) (prepare : Outgoing) → StartsCampaign old.proposer (position old) p prepare
          → Proposed act.Nothing [] (p, prepare ∷ [])
      campaign_goes p prepare starts =
          let sends : List Envelope = envelopes_of old.id old.nodes prepare in
          goes_to old.nodes old.id act.Nothing x _ _ _ (sends ++ []) (frames_of old.id old.nodes prepare) refl refl
          (ap (map frame_of) (append-nil sends) ∙ outgoing_frames old.id old.nodes prepare)
          (goes_sending old.nodes old.id act.Nothing x old p (frames_of old.id old.nodes prepare) stands
          (timeout_lem (membership old.nodes) old.id act.Nothing x old.proposer p (position old) old.nodes prepare own stands.position_
          stands.proposer starts))

      goes_on : (in' : act.Input Command) (submits : List Command) (round : ℕ) (p : Proposing × List Outgoing)
          → Proposes old in' submits round p → Proposed in' submits p
      goes_on in' submits round p (counts from promise sender) =
          proposed_so in' p (counts_goes in' from promise sender refl)
      goes_on in' submits round p (gives_way from n) =
          proposed_so in' p (goes_holding old.nodes old.id in' x old (after_nack old.proposer n) stands
          (nack_lem (membership old.nodes) old.id in' x old.proposer n stands.proposer))
      goes_on in' submits round p (is_asked r) = is_asked_goes r
      goes_on in' submits round p (campaigns q prepare starts) = campaign_goes q prepare starts
      goes_on in' submits round p repeats =
          let again : List Outgoing = sends_again old.proposer.campaign in
          proposed_so in' p (goes_sending old.nodes old.id in' x old old.proposer (frames_of_all old.id old.nodes again) stands
          (tick_lem (membership old.nodes) old.id in' x old.proposer stands.proposer old.nodes))

      -- questions may follow
      asks_too : (in' : act.Input Command) (submits : List Command) (m : ReplicaState) (sends asks : List Envelope) → PlainSends old asks
          → MayComeTo old.nodes old.id in' submits x m (sent sends) → MayComeTo old.nodes old.id in' submits x m (sent (sends ++ asks))
      asks_too in' submits m sends asks plain g =
          let frames = map frame_of asks in
          let next : MayGo old.nodes old.id in' g.after m frames =
          goes_saying old.nodes old.id in' g.after m frames g.stands
          (says_sends (membership old.nodes) old.id in' g.after asks (are_plain old asks plain)) in
          record {
            after = next.after;
            does = does_then (membership old.nodes) old.id in' g.does next.does;
            stands = next.stands;
            sent = next.sent_ ∙ ap (λ l. l ++ frames) g.sent ∙ append_assoc x.sent (map frame_of sends) frames
                ∙ ap (λ l. x.sent ++ l) (sym (map-append frame_of sends asks));
            learnt = next.learnt ∙ g.learnt;
            submitted = next.submitted ∙ g.submitted;
          }

      pub proposes_case : (in' : act.Input Command) (submits : List Command) (round : ℕ) (p : Proposing × List Outgoing) (asks : List Envelope)
          → Proposes old in' submits round p → PlainSends old asks → new ≡ with_proposer old p → said ≡ sent (proposer_sends old p ++ asks)
          → MayComeTo old.nodes old.id in' submits x new said
      proposes_case in' submits round p asks h plain leaves says =
          subst (λ (m : ReplicaState). MayComeTo old.nodes old.id in' submits x m said) (sym leaves)
          (subst (MayComeTo old.nodes old.id in' submits x (with_proposer old p)) (sym says)
          (asks_too in' submits (with_proposer old p) (proposer_sends old p) asks plain (goes_on in' submits round p h)))
