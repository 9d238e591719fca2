-- What a node says on one input is not much.
use Rattle.std.proofs.Common.{◌≡◌, ◌||◌, ℕ, zero, suc, ◌+◌, ◌-◌, ◌*◌, ◌<◌, ◌≤◌, nat_lt, nat_le, min, Bool, true, false, cond, not, List, []}
use Rattle.std.proofs.Common.{◌∷◌, ◌++◌, length, filter, map, Option, Some, None, Result, Ok, Err, IfOk, IfSome, refl, sym, ap, ◌∙◌, subst}
use Rattle.std.proofs.Common.{arith, is_some, ◌⊎◌, inl, inr}
use Rattle.std.specs.List.{list_any}
use Rattle.std.proofs.Math.Nat.{min-le_left}
use Rattle.std.proofs.lemmas.Bool.{cond_both}
use Rattle.std.proofs.lemmas.Bool.Decides.{eqb_tells}
use Rattle.std.proofs.lemmas.List.{length-append, length-map}
use Rattle.std.proofs.lemmas.List.Elements.{filter-append}
use Rattle.std.proofs.lemmas.List.Sums.{length-filter, count_by-le-length}
use Rattle.synod.specs.Acts as act
use Rattle.synod.specs.declared.ballot.Ballot.{Ballot}
use Rattle.sessions.specs.declared.submission.Submission.{Submission}
use Rattle.sessions.specs.Machines.{MachineState}
use Rattle.sessions.specs.declared.command.Command.{Command}
use Rattle.sessions.specs.declared.command.Command.TheVariants.{NoOp, Request}
use Rattle.acceptor.specs.declared.answer.Answer.{Answer}
use Rattle.acceptor.specs.declared.answer.Answer.TheVariants as answer
use Rattle.learner.specs.Learning.{Learning, prefix, learnt_at}
use Rattle.learner.specs.declared.learned.Learned.{Learned}
use Rattle.proposer.specs.Campaigning.{Campaigning, Filling, is_at, stepped, proposing, going_on, filled, window_filled, accept, choice}
use Rattle.proposer.specs.Campaigning.{closed_below}
use Rattle.proposer.specs.Proposing.{Proposing, gathers, gathers_on, leads, proposes, sends_again, with_promised}
use Rattle.proposer.specs.Requests.{is_of, without}
use Rattle.proposer.specs.declared.sends.Outgoing.{Outgoing}
use Rattle.proposer.specs.declared.sends.Recipients.{Recipients}
use Rattle.proposer.specs.declared.sends.Recipients.TheVariants.{All, Others}
use Rattle.proposer.specs.declared.window.TheConstants.{MOST_OPEN}
use Rattle.wire.specs.NodeSets.{has_node, no_nodes, with_node}
use Rattle.wire.specs.declared.frames.envelope.Envelope.{Envelope}
use Rattle.wire.specs.declared.frames.message.Message.{Message}
use Rattle.wire.specs.declared.frames.message.Message.TheVariants.{Prepare, Accepted}
use Rattle.node_model.specs.declared.fault.NodeFault.{NodeFault}
use Rattle.node_model.specs.declared.input.Input.{Input}
use Rattle.node_model.specs.Executing.{Executing, executing, executed, reply_at}
use Rattle.node_model.specs.Replicas.{ReplicaState, ReplicaIsSmall, position, waits}
use Rattle.node_model.specs.Outputs.{Response, IsFew}
use Rattle.node_model.specs.Sending.{to_one, to_all, to_recipients, to_others, envelopes_of, envelopes, answer_sends, ask_sends}
use Rattle.node_model.specs.Taking.{Takes, Hears, Restores, begins_to_lead, after_counting, with_request, after_submit, after_news, proposer_of}
use Rattle.node_model.specs.Taking.{executing_of, execution, news, executed_to_the_end, learnt_from, execution_from}
use Rattle.node_model.proofs.Saying.{PlainSends, asks_one, Proposes, Says, says_of}
use Rattle.node_model.proofs.Saying.PlainSends.{to_nobody, to_node, to_the_rest, brings_part}
use Rattle.node_model.proofs.Saying.Proposes.{counts, gives_way, is_asked, campaigns, repeats}
use Rattle.node_model.proofs.Saying.Says.{tells, reports, answers as acceptor_answers, writes, proposes as proposes_, hears_vote}
use Rattle.node_model.proofs.Saying.Says.{hears_decided, makes_text}

-- ---- messages to nodes
to_all-length : (from n : ℕ) (m : Message) → length (to_all from n m) ≡ n
to_all-length from zero m = refl
to_all-length from (suc n) m =
    let both : length (to_all from (suc n) m) ≡ length (to_all from n m) + 1 = length-append (to_all from n m) (to_one from n m) in
    omega (arith, both, to_all-length from n m)

filter_few : {A : Type 0} (p : A → Bool) (xs : List A) → length (filter p xs) ≤ length xs
filter_few p xs =
    let count = length-filter p xs in
    let few = count_by-le-length p xs in
    omega (arith, count, few)

some_few : (r : Recipients) (es : List Envelope) → length (to_recipients r es) ≤ length es
some_few All es = omega arith
some_few (Others set) es = filter_few (λ (e : Envelope). not (has_node set e.to)) es

outgoing_few : (from n : ℕ) (o : Outgoing) → n ≤ 7 → length (envelopes_of from n o) ≤ 7
outgoing_few from n o few =
    let some = some_few o.to (to_all from n o.message) in
    omega (arith, few, some, to_all-length from n o.message)

envelopes_few : (from n : ℕ) (os : List Outgoing) → n ≤ 7 → length (envelopes from n os) ≤ 7 * length os
envelopes_few from n [] few = omega arith
envelopes_few from n (o ∷ os) few =
    let both : length (envelopes from n (o ∷ os)) ≡ length (envelopes_of from n o) + length (envelopes from n os) =
    length-append (envelopes_of from n o) (envelopes from n os) in
    let first = outgoing_few from n o few in
    let rest = envelopes_few from n os few in
    omega (arith, both, first, rest)

answers_few : (from n to : ℕ) (a : Answer) → n ≤ 7 → length (answer_sends from n to a) ≤ 7
answers_few from n to (answer.Promise p) few = omega arith
answers_few from n to (answer.Accepted v) few = omega (arith, few, to_all-length from n (Accepted v))
answers_few from n to (answer.Nack v) few = omega arith
answers_few from n to (answer.Behind floor) few = omega arith

-- ---- messages to all nodes but one
itself : (id : ℕ) → id < 7 → has_node (with_node no_nodes id) id ≡ true
itself zero few = refl
itself (suc zero) few = refl
itself (suc (suc zero)) few = refl
itself (suc (suc (suc zero))) few = refl
itself (suc (suc (suc (suc zero)))) few = refl
itself (suc (suc (suc (suc (suc zero))))) few = refl
itself (suc (suc (suc (suc (suc (suc zero)))))) few = refl
itself (suc (suc (suc (suc (suc (suc (suc n))))))) few = absurd (omega (arith, few))

same_or_less : (n id : ℕ) → id < suc n → (n ≡ id) ⊎ (id < n)
same_or_less n id there = grind (arith)

below : (n id : ℕ) → id < suc n → (n ≡ id → ⊥) → id < n
below n id there other = elim (same_or_less n id there) [ inl same ↦ absurd (other same) | inr less ↦ less ]

six_or_seven : (n : ℕ) → n ≤ 7 → (n ≤ 6) ⊎ (n ≡ 7)
six_or_seven n few = grind (arith)

module _ (set : List Bool) (id from : ℕ) (m : Message) (in_set : has_node set id ≡ true) where
  abbrev passes : Envelope → Bool
  passes e = not (has_node set e.to)

  last_fails : (n : ℕ) → n ≡ id → filter passes (to_one from n m) ≡ []
  last_fails n e =
      ap (λ (i : ℕ). filter passes (to_one from i m)) e
      ∙ ap (λ (b : Bool). cond (not b) (to_one from id m) []) in_set

  one_fewer : (n : ℕ) → id < n → length (filter passes (to_all from n m)) + 1 ≤ n
  one_fewer zero there = absurd (omega (arith, there))
  one_fewer (suc n) there =
      let parts : length (filter passes (to_all from (suc n) m))
      ≡ length (filter passes (to_all from n m)) + length (filter passes (to_one from n m)) =
      ap length (filter-append passes (to_all from n m) (to_one from n m))
      ∙ length-append (filter passes (to_all from n m)) (filter passes (to_one from n m)) in
      elim (eqb_tells n id) [
        | inl same ↦ (let none : length (filter passes (to_one from n m)) ≡ 0 = ap length (last_fails n same.1) in
            let before = filter_few passes (to_all from n m) in
            omega (arith, parts, none, before, to_all-length from n m))
        | inr other ↦ (let one = filter_few passes (to_one from n m) in
            let before = one_fewer n (below n id there other.1) in
            omega (arith, parts, one, before))
      ]

others_few : (id n : ℕ) (m : Message) → id < 7 → n ≤ 7 → length (to_others id n m) ≤ 6
others_few id n m number few = elim (six_or_seven n few) [
  | inl six ↦ (let some = some_few (Others (with_node no_nodes id)) (to_all id n m) in omega (arith, six, some, to_all-length id n m))
  | inr seven ↦ (let some = one_fewer (with_node no_nodes id) id id m (itself id number) n (omega (arith, number, seven)) in
      omega (arith, few, some))
]

-- ---- a proposer
-- a slot of the window is gone through, and a message at most is sent
abbrev OneMore : Filling → Option Filling → Type 0
OneMore f o = IfSome o (λ (g : Filling). length g.sent ≤ length f.sent + 1)

proposing_few : (b : Ballot) (slot : ℕ) (f : Filling) (o : Option Command) → OneMore f (proposing b slot f o)
proposing_few b slot f None = tt
proposing_few b slot f (Some c) =
    let both = length-append f.sent (accept b (record { slot = slot; command = c }) ∷ []) in omega (arith, both)

stepped_few : (k : Campaigning) (waiting : List Submission) (learnt_to : ℕ) (learnt : Bool) (slot : ℕ) (f : Filling)
    → OneMore f (stepped k waiting learnt_to learnt slot f)
stepped_few k waiting learnt_to learnt slot f =
    cond_both (learnt || list_any (is_at slot) f.proposals) _ _ (OneMore f) (λ _. omega arith)
    (λ _. cond_both (nat_le MOST_OPEN (length f.proposals)) _ _ (OneMore f) (λ _. tt)
    (λ _. proposing_few k.ballot slot f (choice k waiting learnt_to slot f.proposals)))

going_few : (o : Option Filling) (f : Filling) (rest : Filling → Filling) (n : ℕ) → OneMore f o
    → ((g : Filling) → length (rest g).sent ≤ length g.sent + n) → length (going_on o f rest).sent ≤ length f.sent + suc n
going_few None f rest n one more = omega arith
going_few (Some g) f rest n one more = let after = more g in omega (arith, one, after)

filled_few : (k : Campaigning) (waiting : List Submission) (learnt_to : ℕ) (learnt : ℕ → Option Command) (n slot : ℕ) (f : Filling)
    → length (filled k waiting learnt_to learnt n slot f).sent ≤ length f.sent + n
filled_few k waiting learnt_to learnt zero slot f = omega arith
filled_few k waiting learnt_to learnt (suc n) slot f =
    going_few (stepped k waiting learnt_to (is_some (learnt slot)) slot f) f
    (λ (g : Filling). filled k waiting learnt_to learnt n (slot + 1) g) n
    (stepped_few k waiting learnt_to (is_some (learnt slot)) slot f)
    (λ (g : Filling). filled_few k waiting learnt_to learnt n (slot + 1) g)

window_few : (k : Campaigning) (waiting : List Submission) (learnt_to : ℕ) (l : Learning)
    → length (window_filled k waiting learnt_to l).sent ≤ 8
window_few k waiting learnt_to l =
    let n : ℕ = min (prefix l + 8) (k.end + 1) - prefix l in
    let limit = min-le_left (prefix l + 8) (k.end + 1) in
    let most = filled_few k waiting learnt_to (learnt_at l) n (prefix l) (record { proposals = k.proposals; sent = [] }) in
    omega (arith, limit, most)

-- at most eight messages
abbrev Eight : Proposing × List Outgoing → Type 0
Eight x = length x.1 ≤ 8

gathers_few : (p : Proposing) (k : Option Campaigning) (slot : ℕ) → Eight (gathers_on p k slot)
gathers_few p None slot = omega arith
gathers_few p (Some k) slot =
    cond_both (gathers p.waiting slot) _ _ Eight (λ _. omega arith) (λ _. omega arith)

leads_few : (p : Proposing) (k : Campaigning) (l : Learning) → Eight (leads p k l)
leads_few p k l = cond_both (nat_lt k.end (prefix l)) _ _ Eight (λ _. gathers_few p (Some k) (prefix l))
    (λ _. window_few (closed_below (prefix l) k) p.waiting p.learnt_to l)

proposes_few : (p : Proposing) (k : Option Campaigning) (l : Learning) → Eight (proposes p k l)
proposes_few p None l = omega arith
proposes_few p (Some k) l = cond_both k.leading _ _ Eight (λ _. leads_few p k l) (λ _. omega arith)

counting_few : (p q : Proposing) (l : Learning) → Eight (after_counting p q l)
counting_few p q l = cond_both (begins_to_lead p q) _ _ Eight (λ _. proposes_few q q.campaign l) (λ _. omega arith)

submit_few : (m : ReplicaState) (r : Submission) → Eight (after_submit m r)
submit_few m r =
    let p : Proposing = with_request m.proposer r in
    cond_both (waits m r.client r.number) _ _ Eight (λ _. omega arith) (λ _. proposes_few p p.campaign m.learner)

again_few : (o : Option Campaigning) → IfSome o (λ (k : Campaigning). length k.proposals ≤ 8) → length (sends_again o) ≤ 8
again_few None few = omega arith
again_few (Some k) few =
    cond_both k.leading (map (accept k.ballot) k.proposals)
    (record { to = Others k.promised; message = Prepare k.ballot k.first } ∷ [])
    (λ (os : List Outgoing). length os ≤ 8)
    (λ _. let same = length-map k.proposals (accept k.ballot) in omega (arith, same, few))
    (λ _. omega arith)

-- ---- each reply takes away a request that waited
taken : {A : Type 0} (x : A) (b t : Bool) (r : Submission) (rs rest : List Submission) → length (cond t (x ∷ []) []) + length rest ≤ length rs
    → length (cond (b || t) (x ∷ []) []) + length (cond b rs (r ∷ rest)) ≤ length (r ∷ rs)
taken x true t r rs rest h = omega arith
taken x false t r rs rest h = omega (arith, h)

taken_away : {A : Type 0} (x : A) (client number : ℕ) (rs : List Submission)
    → length (cond (list_any (is_of client number) rs) (x ∷ []) []) + length (without client number rs) ≤ length rs
taken_away x client number [] = omega arith
taken_away x client number (r ∷ rs) =
    taken x (is_of client number r) (list_any (is_of client number) rs) r rs (without client number rs) (taken_away x client number rs)

executing_few : (e : Executing) (slot : ℕ) (c : Command)
    → length (executing e slot c).replies + length (executing e slot c).waiting ≤ length e.replies + length e.waiting
executing_few e slot NoOp = omega arith
executing_few e slot (Request r) =
    let both = length-append e.replies (reply_at e slot r) in
    let away : length (reply_at e slot r) + length (without r.client r.number e.waiting) ≤ length e.waiting =
    taken_away _ r.client r.number e.waiting in
    omega (arith, both, away)

executed_few : (e : Executing) (slot : ℕ) (cs : List Command)
    → length (executed e slot cs).replies + length (executed e slot cs).waiting ≤ length e.replies + length e.waiting
executed_few e slot [] = omega arith
executed_few e slot (c ∷ cs) =
    let one = executing_few e slot c in
    let more = executed_few (executing e slot c) (suc slot) cs in
    omega (arith, one, more)

execution_few : (m : ReplicaState) (l : Learning) → length (execution m l).replies ≤ length m.proposer.waiting
execution_few m l =
    let all = executed_few (executing_of m []) (position m) (news m l) in omega (arith, all)

-- a node that has restored a text replies to no more requests than waited
restored_few : (m : ReplicaState) (target : ℕ) → length (execution_from m target).replies ≤ length m.proposer.waiting
restored_few m target =
    let all = executed_few (executing_of m []) target (learnt_from m target) in omega (arith, all)

-- ---- each shape
module _ (old new : ReplicaState) (said : Response) (small : ReplicaIsSmall old) where
  few_sends : (r : Response) → said ≡ r → r.replies ≡ [] → length r.sends ≤ 62 → IsFew said
  few_sends r e none few = subst IsFew (sym e) (record {
    sends = few;
    replies = (let n : length r.replies ≡ 0 = ap length none in omega (arith, n));
  })

  -- questions, and what answers them
  plain_few : (es : List Envelope) → PlainSends old es → length es ≤ 6
  plain_few _ to_nobody = omega arith
  plain_few _ (to_node to m there plain) = omega arith
  plain_few _ (to_the_rest m plain) = others_few old.id old.nodes m small.number small.of_all
  plain_few _ (brings_part to p there is) = omega arith

  -- a proposer, and then questions
  goes_on_few : (os : List Outgoing) (asks : List Envelope) → length os ≤ 8 → PlainSends old asks
      → length (envelopes old.id old.nodes os ++ asks) ≤ 62
  goes_on_few os asks few plain =
      let both = length-append (envelopes old.id old.nodes os) asks in
      let all = envelopes_few old.id old.nodes os small.of_all in
      let last = plain_few asks plain in
      omega (arith, few, both, all, last)

  hears_few : (c : Command) (o : Option Learned) (l : Learning) (asks : List Envelope) → PlainSends old asks
      → Hears old c o l asks new said → IsFew said
  hears_few c None l asks plain k = few_sends _ k.1 refl (omega arith)
  hears_few c (Some learned) l asks plain k =
      let p : Proposing = proposer_of old learned.slot (execution old l) in
      let replies_ = execution_few old l in
      subst IsFew (sym k.says) (record {
        sends = goes_on_few (after_news old learned.slot l).1 asks (proposes_few p p.campaign l) plain;
        replies = omega (arith, replies_, small.waiting);
      })

  restores_few : (from target : ℕ) (machine : MachineState) → from < old.nodes → Restores old from target machine new said → IsFew said
  restores_few from target machine sender k =
      let p : Proposing = (executed_to_the_end k.m target).proposer in
      let replies_ = restored_few k.m target in
      let waited : length k.m.proposer.waiting ≡ length old.proposer.waiting = ap (λ (m : ReplicaState). length m.proposer.waiting) k.begins in
      subst IsFew (sym k.says) (record {
        sends = goes_on_few (proposes p p.campaign k.m.learner).1 (ask_sends old.id from (position k.m))
            (proposes_few p p.campaign k.m.learner) (asks_one old from (position k.m) sender);
        replies = omega (arith, replies_, waited, small.waiting);
      })

  proposer_few : (in' : act.Input Command) (submits : List Command) (round : ℕ) (p : Proposing × List Outgoing)
      → Proposes old in' submits round p → Eight p
  proposer_few _ _ _ _ (counts from p sender) = counting_few old.proposer (with_promised old.proposer from p) old.learner
  proposer_few _ _ _ _ (gives_way from n) = omega arith
  proposer_few _ _ _ _ (is_asked r) = submit_few old r
  proposer_few _ _ _ _ (campaigns p prepare starts) = omega arith
  proposer_few _ _ _ _ repeats = again_few old.proposer.campaign small.proposals

  says_few : (i : Input) → Says old i new said → IsFew said
  says_few i (tells in' f sends is fetched plain leaves e) = few_sends _ e refl (let n = plain_few sends plain in omega (arith, n))
  says_few i (reports in' to slot c is there learnt leaves e) = few_sends _ e refl (omega arith)
  says_few i (acceptor_answers in' to a answer_ is there h leaves e) =
      few_sends _ e refl (let n = answers_few old.id old.nodes to answer_ small.of_all in omega (arith, n))
  says_few i (writes a is h leaves e) = few_sends _ e refl (omega arith)
  says_few i (proposes_ in' submits round p asks is h plain leaves e) =
      few_sends _ e refl (goes_on_few p.1 asks (proposer_few in' submits round p h) plain)
  says_few i (hears_vote from to v comes is (o, l, heard, k)) = hears_few v.command o l [] to_nobody k
  says_few i (hears_decided from to slot c comes is sender (o, l, heard, k)) =
      hears_few c o l _ (asks_one old from (prefix l) sender) k
  says_few i (makes_text in' is h) = restores_few h.from h.fetched.target h.machine h.sender h.restored

-- what a node says that took an input
pub said_few : (i : Input) (old new : ReplicaState) (r : Result Response NodeFault) → ReplicaIsSmall old
    → IfOk r (λ said. Takes old i new said) → IfOk r IsFew
said_few i old new (Ok said) small k = says_few old new said small i (says_of old new said i k)
said_few i old new (Err f) small k = tt
