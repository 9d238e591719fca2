-- Which parts of a text a node sends: those of its acceptor's, to a node that asks for one.
use Rattle.std.proofs.Common.{◌≡◌, ◌||◌, ℕ, zero, suc, ◌+◌, ◌-◌, nat_lt, nat_le, Bool, not, map, is_some, List, []}
use Rattle.std.proofs.Common.{◌∷◌, ◌++◌, All, length, Option, Some, None, IfSome, refl, sym, ap, subst}
use Rattle.std.specs.List.{list_any}
use Rattle.std.proofs.lemmas.Bool.{cond_both}
use Rattle.std.proofs.lemmas.List.Elements.{All-nil, All-append, All-push, All-filter}
use Rattle.synod.specs.declared.ballot.Ballot.{Ballot}
use Rattle.synod.specs.Acts as act
use Rattle.sessions.specs.declared.submission.Submission.{Submission}
use Rattle.sessions.specs.declared.command.Command.{Command}
use Rattle.acceptor.specs.declared.answer.Answer.{Answer}
use Rattle.acceptor.specs.declared.answer.Answer.TheVariants as answer
use Rattle.learner.specs.Learning.{Learning, prefix, learnt_at}
use Rattle.learner.specs.declared.learned.Learned.{Learned}
use Rattle.proposer.specs.Campaigning.{Campaigning, Filling, is_at, stepped, proposing, going_on, filled, window_filled, window_limit}
use Rattle.proposer.specs.Campaigning.{accept, choice, closed_below}
use Rattle.proposer.specs.Proposing.{Proposing, gathers, gathers_on, leads, proposes, sends_again}
use Rattle.proposer.specs.Proposing.{with_promised}
use Rattle.proposer.specs.declared.sends.Outgoing.{Outgoing}
use Rattle.proposer.specs.declared.sends.Recipients.{Recipients}
use Rattle.proposer.specs.declared.sends.Recipients.TheVariants.{All as ToAll, Others}
use Rattle.proposer.specs.declared.window.Proposal.{Proposal}
use Rattle.proposer.specs.declared.window.TheConstants.{MOST_OPEN}
use Rattle.wire.specs.NodeSets.{has_node, no_nodes, with_node}
use Rattle.wire.specs.Parts.{Piece}
use Rattle.wire.specs.declared.frames.envelope.Envelope.{Envelope}
use Rattle.wire.specs.declared.frames.message.Message.{Message}
use Rattle.wire.specs.declared.frames.message.Message.TheVariants.{Prepare, SnapPart}
use Rattle.node_model.specs.declared.input.Input.{Input}
use Rattle.node_model.specs.Replicas.{ReplicaState, position, waits}
use Rattle.node_model.specs.Outputs.{Response}
use Rattle.node_model.specs.Sending.{to_one, to_all, to_others, to_recipients, envelopes_of, envelopes, answer_sends}
use Rattle.node_model.specs.Taking.{Takes, Hears, after_counting, begins_to_lead, after_submit, with_request, after_news, proposer_of}
use Rattle.node_model.specs.Taking.{execution, executed_to_the_end}
use Rattle.node_model.proofs.Saying.{IsPartOf, PlainSends, asks_one, Proposes, Says, says_of}
use Rattle.node_model.proofs.Saying.PlainSends.{to_nobody, to_node, to_the_rest, brings_part}
use Rattle.node_model.proofs.Saying.Proposes.{counts, gives_way, is_asked, campaigns, repeats}
use Rattle.node_model.proofs.Saying.Says.{tells, reports, answers as acceptor_answers, writes, proposes as proposes_, hears_vote}
use Rattle.node_model.proofs.Saying.Says.{hears_decided, makes_text}

-- the part that a message brings, if it brings one
abbrev pub part_in : Message → Option Piece
part_in (SnapPart p) = Some p
part_in other = None

-- what holds of the part that an envelope brings, if it brings one
abbrev pub Brings : (Piece → Type 0) → Envelope → Type 0
Brings P e = IfSome (part_in e.message) P

-- ---- what a proposer sends
-- no message brings a part
abbrev BringNone : List Outgoing → Type 0
BringNone [] = Unit {0}
BringNone (o ∷ os) = (part_in o.message ≡ None) × BringNone os

abbrev NoneSent : Filling → Type 0
NoneSent f = BringNone f.sent

none_after : (os : List Outgoing) (o : Outgoing) → BringNone os → part_in o.message ≡ None → BringNone (os ++ o ∷ [])
none_after [] o none one = (one, tt)
none_after (x ∷ os) o none one = (none.0, none_after os o none.1 one)

none_again : (b : Ballot) (ps : List Proposal) → BringNone (map (accept b) ps)
none_again b [] = tt
none_again b (p ∷ ps) = (refl, none_again b ps)

proposing_none : (b : Ballot) (slot : ℕ) (f : Filling) (o : Option Command) → NoneSent f → IfSome (proposing b slot f o) NoneSent
proposing_none b slot f None none = tt
proposing_none b slot f (Some c) none = none_after f.sent (accept b (record { slot = slot; command = c })) none refl

stepped_none : (k : Campaigning) (waiting : List Submission) (learnt_to : ℕ) (learnt : Bool) (slot : ℕ) (f : Filling) → NoneSent f
    → IfSome (stepped k waiting learnt_to learnt slot f) NoneSent
stepped_none k waiting learnt_to learnt slot f none =
    cond_both (learnt || list_any (is_at slot) f.proposals) _ _ (λ (o : Option Filling). IfSome o NoneSent) (λ _. none)
    (λ _. cond_both (nat_le MOST_OPEN (length f.proposals)) _ _ (λ (o : Option Filling). IfSome o NoneSent) (λ _. tt)
    (λ _. proposing_none k.ballot slot f (choice k waiting learnt_to slot f.proposals) none))

going_none : (o : Option Filling) (f : Filling) (rest : Filling → Filling) → NoneSent f → IfSome o NoneSent
    → ((g : Filling) → NoneSent g → NoneSent (rest g)) → NoneSent (going_on o f rest)
going_none None f rest none one more = none
going_none (Some g) f rest none one more = more g one

filled_none : (k : Campaigning) (waiting : List Submission) (learnt_to : ℕ) (learnt : ℕ → Option Command) (n slot : ℕ) (f : Filling)
    → NoneSent f → NoneSent (filled k waiting learnt_to learnt n slot f)
filled_none k waiting learnt_to learnt zero slot f none = none
filled_none k waiting learnt_to learnt (suc n) slot f none =
    going_none (stepped k waiting learnt_to (is_some (learnt slot)) slot f) f
    (λ (g : Filling). filled k waiting learnt_to learnt n (slot + 1) g) none
    (stepped_none k waiting learnt_to (is_some (learnt slot)) slot f none)
    (λ (g : Filling) h. filled_none k waiting learnt_to learnt n (slot + 1) g h)

window_none : (k : Campaigning) (waiting : List Submission) (learnt_to : ℕ) (l : Learning) → NoneSent (window_filled k waiting learnt_to l)
window_none k waiting learnt_to l =
    filled_none k waiting learnt_to (learnt_at l) (window_limit (prefix l) k.end - prefix l) (prefix l)
    (record { proposals = k.proposals; sent = [] }) tt

abbrev NoneOf : Proposing × List Outgoing → Type 0
NoneOf x = BringNone x.1

gathers_none : (p : Proposing) (k : Option Campaigning) (slot : ℕ) → NoneOf (gathers_on p k slot)
gathers_none p None slot = tt
gathers_none p (Some k) slot = cond_both (gathers p.waiting slot) _ _ NoneOf (λ _. (refl, tt)) (λ _. tt)

leads_none : (p : Proposing) (k : Campaigning) (l : Learning) → NoneOf (leads p k l)
leads_none p k l = cond_both (nat_lt k.end (prefix l)) _ _ NoneOf (λ _. gathers_none p (Some k) (prefix l))
    (λ _. window_none (closed_below (prefix l) k) p.waiting p.learnt_to l)

proposes_none : (p : Proposing) (k : Option Campaigning) (l : Learning) → NoneOf (proposes p k l)
proposes_none p None l = tt
proposes_none p (Some k) l = cond_both k.leading _ _ NoneOf (λ _. leads_none p k l) (λ _. tt)

counting_none : (p q : Proposing) (l : Learning) → NoneOf (after_counting p q l)
counting_none p q l = cond_both (begins_to_lead p q) _ _ NoneOf (λ _. proposes_none q q.campaign l) (λ _. tt)

submit_none : (m : ReplicaState) (r : Submission) → NoneOf (after_submit m r)
submit_none m r =
    let p : Proposing = with_request m.proposer r in
    cond_both (waits m r.client r.number) _ _ NoneOf (λ _. tt) (λ _. proposes_none p p.campaign m.learner)

again_none : (o : Option Campaigning) → BringNone (sends_again o)
again_none None = tt
again_none (Some k) =
    cond_both k.leading (map (accept k.ballot) k.proposals)
    (record { to = Others k.promised; message = Prepare k.ballot k.first } ∷ []) BringNone
    (λ _. none_again k.ballot k.proposals) (λ _. (refl, tt))

-- ---- what is sent
module _ (P : Piece → Type 0) (id nodes : ℕ) where
  abbrev Parts : List Envelope → Type 0
  Parts es = All (Brings P) es

  none : Parts []
  none = All-nil (Brings P)

  one : (to : ℕ) (message : Message) → IfSome (part_in message) P → Parts (to_one id to message)
  one to message h = All-push (Brings P) [] (record { from = id; to = to; message = message }) none h

  without : (message : Message) → part_in message ≡ None → IfSome (part_in message) P
  without message is = subst (λ (o : Option Piece). IfSome o P) (sym is) tt

  each : (n : ℕ) (message : Message) → part_in message ≡ None → Parts (to_all id n message)
  each zero message is = none
  each (suc n) message is =
      All-push (Brings P) (to_all id n message) (record { from = id; to = n; message = message }) (each n message is) (without message is)

  some_of : (r : Recipients) (es : List Envelope) → Parts es → Parts (to_recipients r es)
  some_of ToAll es h = h
  some_of (Others set) es h = All-filter (λ (e : Envelope). not (has_node set e.to)) (Brings P) es h

  outgoing : (o : Outgoing) → part_in o.message ≡ None → Parts (envelopes_of id nodes o)
  outgoing o is = some_of o.to (to_all id nodes o.message) (each nodes o.message is)

  all_outgoing : (os : List Outgoing) → BringNone os → Parts (envelopes id nodes os)
  all_outgoing [] h = none
  all_outgoing (o ∷ os) h =
      All-append (Brings P) (envelopes_of id nodes o) (envelopes id nodes os) (outgoing o h.0) (all_outgoing os h.1)

  answers : (to : ℕ) (a : Answer) → Parts (answer_sends id nodes to a)
  answers to (answer.Accepted v) = each nodes _ refl
  answers to (answer.Promise p) = one to _ tt
  answers to (answer.Nack n) = one to _ tt
  answers to (answer.Behind floor) = one to _ tt

  others : (message : Message) → part_in message ≡ None → Parts (to_others id nodes message)
  others message is = some_of (Others (with_node no_nodes id)) (to_all id nodes message) (each nodes message is)

  both : (xs ys : List Envelope) → Parts xs → Parts ys → Parts (xs ++ ys)
  both = All-append (Brings P)

-- ---- each shape of what a node says
-- a message that brings no part
none_in : (m : Message) → ((p : Piece) → m ≡ SnapPart p → ⊥) → part_in m ≡ None
none_in (SnapPart p) no_part = absurd (no_part p refl)
none_in other no_part = refl

module _ (old new : ReplicaState) (said : Response) where
  abbrev P : Piece → Type 0
  P = IsPartOf old.acceptor

  abbrev Sends : List Envelope → Type 0
  Sends es = All (Brings (IsPartOf old.acceptor)) es

  says : (r : Response) → said ≡ r → Sends r.sends → Sends said.sends
  says r e h = subst (λ (x : Response). Sends x.sends) (sym e) h

  silent : Sends []
  silent = none P old.id old.nodes

  plain_sends : (es : List Envelope) → PlainSends old es → Sends es
  plain_sends _ to_nobody = silent
  plain_sends _ (to_node to m there is) = one P old.id old.nodes to m (without P old.id old.nodes m (none_in m is.no_part))
  plain_sends _ (to_the_rest m is) = others P old.id old.nodes m (none_in m is.no_part)
  plain_sends _ (brings_part to p there is) = one P old.id old.nodes to (SnapPart p) is

  -- a proposer, and then questions
  goes_on : (os : List Outgoing) (asks : List Envelope) → BringNone os → PlainSends old asks → Sends (envelopes old.id old.nodes os ++ asks)
  goes_on os asks none_ plain =
      both P old.id old.nodes (envelopes old.id old.nodes os) asks (all_outgoing P old.id old.nodes os none_) (plain_sends asks plain)

  hears_sends : (c : Command) (o : Option Learned) (l : Learning) (asks : List Envelope) → PlainSends old asks
      → Hears old c o l asks new said → Sends said.sends
  hears_sends c None l asks plain k = says _ k.1 silent
  hears_sends c (Some learned) l asks plain k =
      let p : Proposing = proposer_of old learned.slot (execution old l) in
      says _ k.says (goes_on (after_news old learned.slot l).1 asks (proposes_none p p.campaign l) plain)

  proposer_brings_none : (in' : act.Input Command) (submits : List Command) (round : ℕ) (p : Proposing × List Outgoing)
      → Proposes old in' submits round p → NoneOf p
  proposer_brings_none _ _ _ _ (counts from p sender) = counting_none old.proposer (with_promised old.proposer from p) old.learner
  proposer_brings_none _ _ _ _ (gives_way from n) = tt
  proposer_brings_none _ _ _ _ (is_asked r) = submit_none old r
  proposer_brings_none _ _ _ _ (campaigns p prepare starts) = (ap (λ (o : Outgoing). part_in o.message) starts.asks_all, tt)
  proposer_brings_none _ _ _ _ repeats = again_none old.proposer.campaign

  says_sends : (i : Input) → Says old i new said → Sends said.sends
  says_sends i (tells in' f sends is fetches plain leaves e) = says _ e (plain_sends sends plain)
  says_sends i (reports in' to slot c is there learnt leaves e) = says _ e (one P old.id old.nodes to _ tt)
  says_sends i (acceptor_answers in' to a answer is there h leaves e) = says _ e (answers P old.id old.nodes to answer)
  says_sends i (writes a is h leaves e) = says _ e silent
  says_sends i (proposes_ in' submits round p asks is h plain leaves e) =
      says _ e (goes_on p.1 asks (proposer_brings_none in' submits round p h) plain)
  says_sends i (hears_vote from to v comes is (o, l, heard, k)) = hears_sends v.command o l [] to_nobody k
  says_sends i (hears_decided from to slot c comes is sender (o, l, heard, k)) = hears_sends c o l _ (asks_one old from (prefix l) sender) k
  says_sends i (makes_text in' is h) =
      let m : ReplicaState = h.restored.m in
      let p : Proposing = (executed_to_the_end m h.fetched.target).proposer in
      says _ h.restored.says
      (goes_on (proposes p p.campaign m.learner).1 _ (proposes_none p p.campaign m.learner) (asks_one old h.from (position m) h.sender))

  pub takes_sends : (i : Input) → Takes old i new said → Sends said.sends
  takes_sends i k = says_sends i (says_of old new said i k)
