-- A node gathers promises under its ballot, and leads when a majority has promised: it then proposes something for its position.
use Rattle.std.proofs.Common.{◌≡◌, ◌≢◌, ◌⊎◌, ℕ, zero, suc, ◌+◌, ◌-◌, ◌*◌, ◌<◌, ◌≤◌, ◌==◌, ◌&&◌, ◌||◌, inl, inr, List, [], ◌∷◌, ◌++◌, length}
use Rattle.std.proofs.Common.{nat_lt, nat_le, not, Bool, true, false, cond, Option, Some, None, is_some, All, AllPairs, Contains, refl, sym}
use Rattle.std.proofs.Common.{ap, subst, ◌∙◌, arith, append_assoc, append-nil}
use Rattle.std.specs.Prelude.{⊤, filter}
use Rattle.std.specs.List.{list_any}
use Rattle.std.proofs.lemmas.Bool.{cond_both, cond-true, cond-false, and_from, and_left, not_from_false, eq-eqb, lt-ltb, le-ltb}
use Rattle.std.proofs.lemmas.List.Elements.{All-nil, All-cons, All-append, All-head, All-tail}
use Rattle.tpoint.proofs.ListLemmas.{first_to_all, tail_pairs}
use Rattle.synod.specs.Majorities.{counted, IsMajority}
use Rattle.synod.specs.Records.{put}
use Rattle.synod.proofs.Counting.{counted_alike, counted_more, counted_none}
use Rattle.synod.proofs.Puts.{put_same, put_other, put_put, put_self}
use Rattle.synod.specs.declared.ballot.Ballot.{Ballot}
use Rattle.synod.specs.declared.vote.Vote.{Vote}
use Rattle.synod.specs.declared.slot.TheConstants.{SLOTS}
use Rattle.sessions.specs.declared.submission.Submission.{Submission}
use Rattle.sessions.specs.declared.command.Command.{Command}
use Rattle.sessions.specs.declared.command.Command.TheVariants.{NoOp, Request}
use Rattle.learner.specs.Learning.{Learning, learnt_at, prefix}
use Rattle.wire.specs.NodeSets.{has_node, no_nodes, with_node}
use Rattle.wire.specs.OneBallot.{same_ballot as one_ballot}
use Rattle.wire.specs.Promises.{Promised}
use Rattle.wire.specs.Same.{same_ballot, same_ballot_Decides}
use Rattle.wire.specs.declared.frames.envelope.Envelope.{Envelope}
use Rattle.wire.specs.declared.frames.message.Message.TheVariants.{Prepare, Accept}
use Rattle.proposer.specs.Campaigning.{is_most, Campaigning, Filling, is_at, accept, choice, command_or, free_choice, first_free}
use Rattle.proposer.specs.Campaigning.{is_told_after, told_at, noop_where, request_or, with_proposal, proposing, stepped, going_on, filled}
use Rattle.proposer.specs.Campaigning.{window_limit, window_filled, counts, with_promise, closed_below, prepare}
use Rattle.proposer.specs.declared.sends.Outgoing.{Outgoing}
use Rattle.proposer.specs.declared.window.Proposal.{Proposal}
use Rattle.proposer.specs.declared.window.TheConstants.{MOST_OPEN}
use Rattle.proposer.specs.Campaigning as campaign
use Rattle.proposer.specs.Proposing.{Proposing, StartsCampaign, next_round, promised, with_promised, is_led, gathers_on, fills, leads}
use Rattle.node_model.specs.Replicas.{ReplicaState, position}
use Rattle.node_model.specs.Outputs.{Response, sent}
use Rattle.node_model.specs.Sending.{to_one, to_all, envelopes, envelopes_of}
use Rattle.node_model.specs.Taking.{TakesTimeout, with_proposer, proposer_sends, proposed, begins_to_lead, after_counting, after_promise}

-- the node gathers promises under the ballot for the slots from this one on, and these nodes' were counted
pub record Gathers (ballot : Ballot) (slot : ℕ) (m : ReplicaState) (set : List Bool) : Type 0 where
  pub campaign : Campaigning
  pub here : m.proposer.campaign ≡ Some campaign
  pub ballot_ : campaign.ballot ≡ ballot
  pub first : campaign.first ≡ slot
  pub within : slot ≤ campaign.end
  pub none_open : campaign.proposals ≡ []
  pub gathers : campaign.leading ≡ false
  pub counted : campaign.promised ≡ set
  pub too_few : is_most m.proposer.nodes set ≡ false

-- it leads
pub record LeadsNow (m : ReplicaState) : Type 0 where
  pub campaign : Campaigning
  pub here : m.proposer.campaign ≡ Some campaign
  pub leads : campaign.leading ≡ true

-- the message asks for a vote
abbrev pub AsksForVote : Envelope → Type 0
AsksForVote e = (v : Vote Command) × (e.message ≡ Accept v)

-- it asks every node to vote for a command at the slot, and then perhaps for more
pub record AsksAll (m : ReplicaState) (ballot : Ballot) (slot : ℕ) (sends : List Envelope) : Type 0 where
  pub command : Command
  pub more : List Envelope
  pub are : sends ≡ to_all m.id m.nodes (Accept (record { slot = slot; ballot = ballot; command = command })) ++ more
  pub votes : All AsksForVote more

-- ---- members without repeats, and sets of nodes
-- the first of a list is in it, and so are the others
first_in : (y : ℕ) (ys : List ℕ) → Contains (y ∷ ys) y
first_in y ys = (0, omega arith, refl)

later_in : (y : ℕ) (ys : List ℕ) (m : ℕ) → Contains ys m → Contains (y ∷ ys) m
later_in y ys m c = (suc c.0, omega (arith, c.1), c.2)

-- the first isn't among the others
first_once : (y : ℕ) (ys : List ℕ) → AllPairs ◌≢◌ (y ∷ ys) → (m : ℕ) → Contains ys m → m ≡ y → ⊥
first_once y ys pairs m c e = first_to_all ◌≢◌ y ys pairs c.0 m c.1 (sym e ∙ sym c.2)

-- where a node passes a test, all others that do are one less
one_less : (n : ℕ) (p : ℕ → Bool) (y : ℕ) → y < n → p y ≡ true → counted p n ≡ counted (put p y false) n + 1
one_less n p y below passes =
    let back : put (put p y false) y true ≡ p =
    put_put p y false true ∙ ap (λ (b : Bool). put p y b) (sym passes) ∙ put_self p y in
    ap (λ (q : ℕ → Bool). counted q n) (sym back) ∙ counted_more (put p y false) y n below (put_same p y false)

-- members of the run without repeats that all pass a test are no more than pass it
pub members_counted : (n : ℕ) (p : ℕ → Bool) (members : List ℕ) → AllPairs ◌≢◌ members → ((m : ℕ) → Contains members m → m < n)
    → ((m : ℕ) → Contains members m → p m ≡ true) → length members ≤ counted p n
members_counted n p [] pairs below pass = omega arith
members_counted n p (y ∷ ys) pairs below pass =
    let rest : length ys ≤ counted (put p y false) n =
    members_counted n (put p y false) ys (tail_pairs ◌≢◌ y ys pairs) (λ m c. below m (later_in y ys m c))
    (λ m c. put_other p y false m (first_once y ys pairs m c) ∙ pass m (later_in y ys m c)) in
    let one = one_less n p y (below y (first_in y ys)) (pass y (first_in y ys)) in
    omega (arith, rest, one)

-- nobody is in the empty set
none_there : (a : ℕ) → has_node no_nodes a ≡ false
none_there zero = refl
none_there (suc zero) = refl
none_there (suc (suc zero)) = refl
none_there (suc (suc (suc zero))) = refl
none_there (suc (suc (suc (suc zero)))) = refl
none_there (suc (suc (suc (suc (suc zero))))) = refl
none_there (suc (suc (suc (suc (suc (suc zero)))))) = refl
none_there (suc (suc (suc (suc (suc (suc (suc a))))))) = refl

-- so it holds no majority
none_is_few : (n : ℕ) → is_most n no_nodes ≡ false
none_is_few n =
    let none : counted (has_node no_nodes) n ≡ 0 =
    counted_alike (has_node no_nodes) (λ _. false) n (λ a _. none_there a) ∙ counted_none n in
    ap (λ (c : ℕ). nat_lt n (2 * c)) none ∙ le-ltb n 0 (omega arith)

-- where the promises of a majority were counted it can't be gathering
pub cannot_gather : (n : ℕ) (members : List ℕ) (set : List Bool) → IsMajority n (length members) → AllPairs ◌≢◌ members
    → ((m : ℕ) → Contains members m → m < n) → ((m : ℕ) → Contains members m → has_node set m ≡ true) → is_most n set ≡ true
cannot_gather n members set most pairs below there =
    let few : length members ≤ counted (has_node set) n = members_counted n (has_node set) members pairs below there in
    lt-ltb n (2 * counted (has_node set) n) (omega (arith, few, most))

-- ---- while a window is filled, what is sent grows by accepts
-- it asks all nodes to vote for a proposal
abbrev IsAccept : Outgoing → Type 0
IsAccept o = (b : Ballot) × (p : Proposal) × (o ≡ accept b p)

-- what was sent then is what was sent before, and accepts
record Grows (old new : Filling) : Type 0 where
  pub more : List Outgoing
  pub sends : new.sent ≡ old.sent ++ more
  pub accepts : All IsAccept more

grows_none : (f : Filling) → Grows f f
grows_none f = record { more = []; sends = sym (append-nil f.sent); accepts = All-nil IsAccept }

grows_then : (f g h : Filling) → Grows f g → Grows g h → Grows f h
grows_then f g h one two = record {
  more = one.more ++ two.more;
  sends = two.sends ∙ ap (λ l. l ++ two.more) one.sends ∙ append_assoc f.sent one.more two.more;
  accepts = All-append IsAccept one.more two.more one.accepts two.accepts;
}

-- where a step goes on
abbrev StepGrows : Filling → Option Filling → Type 0
StepGrows f None = ⊤
StepGrows f (Some g) = Grows f g

proposing_grows : (b : Ballot) (slot : ℕ) (f : Filling) (o : Option Command) → StepGrows f (proposing b slot f o)
proposing_grows b slot f None = tt
proposing_grows b slot f (Some c) =
    let p : Proposal = record { slot = slot; command = c } in
    record {
      more = accept b p ∷ [];
      sends = refl;
      accepts = All-cons IsAccept (accept b p) [] (b, p, refl) (All-nil IsAccept);
    }

going_grows : (o : Option Filling) (f : Filling) (rest : Filling → Filling) → StepGrows f o → ((g : Filling) → Grows g (rest g))
    → Grows f (going_on o f rest)
going_grows None f rest step then = grows_none f
going_grows (Some g) f rest step then = grows_then f g (rest g) step (then g)

module _ (k : Campaigning) (waiting : List Submission) (learnt_to : ℕ) (learnt : ℕ → Option Command) where
  step_grows : (slot : ℕ) (known : Bool) (f : Filling) → StepGrows f (stepped k waiting learnt_to known slot f)
  step_grows slot known f =
      let next = proposing k.ballot slot f (choice k waiting learnt_to slot f.proposals) in
      cond_both (known || list_any (is_at slot) f.proposals) (Some f) (cond (nat_le MOST_OPEN (length f.proposals)) None next) (StepGrows f)
      (λ _. grows_none f)
      (λ _. cond_both (nat_le MOST_OPEN (length f.proposals)) None next (StepGrows f) (λ _. tt)
      (λ _. proposing_grows k.ballot slot f (choice k waiting learnt_to slot f.proposals)))

  fill_grows : (n slot : ℕ) (f : Filling) → Grows f (filled k waiting learnt_to learnt n slot f)
  fill_grows zero slot f = grows_none f
  fill_grows (suc n) slot f =
      going_grows (stepped k waiting learnt_to (is_some (learnt slot)) slot f) f
      (λ g. filled k waiting learnt_to learnt n (slot + 1) g)
      (step_grows slot (is_some (learnt slot)) f) (λ g. fill_grows n (slot + 1) g)

-- ---- the first slot
-- at a campaign's first slot there always is a choice
chosen : (told : Option (Vote Command)) (is_gap : Bool) (free : Option Submission) → (c : Command)
    × (command_or told (cond is_gap (Some NoOp) (request_or free (noop_where true))) ≡ Some c)
chosen (Some v) is_gap free = (v.command, refl)
chosen None true free = (NoOp, refl)
chosen None false None = (NoOp, refl)
chosen None false (Some r) = (Request r, refl)

-- what was sent begins with an accept for the slot, and goes on with others
record Opens (ballot : Ballot) (slot : ℕ) (sent : List Outgoing) : Type 0 where
  pub command : Command
  pub more : List Outgoing
  pub are : sent ≡ accept ballot (record { slot = slot; command = command }) ∷ more
  pub accepts : All IsAccept more

abbrev nothing_open : Filling
nothing_open = record { proposals = []; sent = [] }

module _ (k : Campaigning) (waiting : List Submission) (learnt_to : ℕ) (learnt : ℕ → Option Command) (slot : ℕ) (first : k.first ≡ slot)
    (unlearnt : learnt slot ≡ None) where
  choice_there : (c : Command) × (choice k waiting learnt_to slot [] ≡ Some c)
  choice_there =
      let gap = is_told_after k.told slot || nat_lt (slot + 1) learnt_to in
      let some = chosen (told_at k.told slot) gap (first_free waiting []) in
      let here : (slot == k.first) ≡ true = eq-eqb slot k.first (sym first) in
      (some.0, ap (λ (b : Bool). command_or (told_at k.told slot) (free_choice gap waiting [] b)) here ∙ some.1)

  step_opens : (c : Command) → choice k waiting learnt_to slot [] ≡ Some c
      → stepped k waiting learnt_to (is_some (learnt slot)) slot nothing_open
      ≡ Some (with_proposal k.ballot nothing_open (record { slot = slot; command = c }))
  step_opens c e =
      ap (λ (o : Option Command). stepped k waiting learnt_to (is_some o) slot nothing_open) unlearnt
      ∙ ap (λ (o : Option Command). proposing k.ballot slot nothing_open o) e

  fill_opens : (n : ℕ) → Opens k.ballot slot (filled k waiting learnt_to learnt (suc n) slot nothing_open).sent
  fill_opens n =
      let some = choice_there in
      let g : Filling = with_proposal k.ballot nothing_open (record { slot = slot; command = some.0 }) in
      let on : filled k waiting learnt_to learnt (suc n) slot nothing_open ≡ filled k waiting learnt_to learnt n (slot + 1) g =
      ap (λ (o : Option Filling). going_on o nothing_open (λ h. filled k waiting learnt_to learnt n (slot + 1) h))
      (step_opens some.0 some.1) in
      let rest = fill_grows k waiting learnt_to learnt n (slot + 1) g in
      record { command = some.0; more = rest.more; are = ap (λ (f : Filling). f.sent) on ∙ rest.sends; accepts = rest.accepts }

-- a window that begins at the campaign's first slot, where nothing is open
window_opens : (k : Campaigning) (waiting : List Submission) (learnt_to : ℕ) (l : Learning) (slot : ℕ) → slot ≡ prefix l → k.first ≡ slot
    → l.learnt slot ≡ None → slot ≤ k.end → k.proposals ≡ [] → Opens k.ballot slot (window_filled k waiting learnt_to l).sent
window_opens k waiting learnt_to l slot at first unlearnt within none =
    let n : ℕ = window_limit slot k.end - slot - 1 in
    let some : suc n ≡ window_limit slot k.end - slot = omega (arith, within) in
    let opens = fill_opens k waiting learnt_to (learnt_at l) slot first unlearnt n in
    let from_here = subst (λ (m : ℕ). Opens k.ballot slot (filled k waiting learnt_to (learnt_at l) m slot nothing_open).sent) some opens in
    let there = subst (λ (s : ℕ). Opens k.ballot slot
    (filled k waiting learnt_to (learnt_at l) (window_limit s k.end - s) s nothing_open).sent) at from_here in
    subst (λ (ps : List Proposal). Opens k.ballot slot
    (filled k waiting learnt_to (learnt_at l) (window_limit (prefix l) k.end - prefix l) (prefix l)
    (record { proposals = ps; sent = [] })).sent) (sym none) there

-- ---- what is sent
-- accepts ask for votes
to_all_ask : (from n : ℕ) (v : Vote Command) → All AsksForVote (to_all from n (Accept v))
to_all_ask from zero v = All-nil AsksForVote
to_all_ask from (suc n) v =
    All-append AsksForVote (to_all from n (Accept v)) (to_one from n (Accept v)) (to_all_ask from n v)
    (All-cons AsksForVote (record { from = from; to = n; message = Accept v }) [] (v, refl) (All-nil AsksForVote))

accept_asks : (from n : ℕ) (o : Outgoing) → IsAccept o → All AsksForVote (envelopes_of from n o)
accept_asks from n o (b, p, same) =
    subst (λ (x : Outgoing). All AsksForVote (envelopes_of from n x)) (sym same)
    (to_all_ask from n (record { slot = p.slot; ballot = b; command = p.command }))

accepts_ask : (from n : ℕ) (os : List Outgoing) → All IsAccept os → All AsksForVote (envelopes from n os)
accepts_ask from n [] h = All-nil AsksForVote
accepts_ask from n (o ∷ os) h =
    All-append AsksForVote (envelopes_of from n o) (envelopes from n os) (accept_asks from n o (All-head IsAccept o os h))
    (accepts_ask from n os (All-tail IsAccept o os h))

-- what begins with an accept for the slot
opening_asks : (m : ReplicaState) (ballot : Ballot) (slot : ℕ) (os : List Outgoing) → Opens ballot slot os
    → AsksAll m ballot slot (envelopes m.id m.nodes os)
opening_asks m ballot slot os h = record {
  command = h.command;
  more = envelopes m.id m.nodes h.more;
  are = ap (λ (x : List Outgoing). envelopes m.id m.nodes x) h.are;
  votes = accepts_ask m.id m.nodes h.more h.accepts;
}

-- ---- a promise that counts
-- what a node comes to by one promise more
abbrev GathersOrLeads : Ballot → ℕ → ReplicaState → List Bool → Proposing × List Outgoing → Type 0
GathersOrLeads ballot slot m set r =
    (Gathers ballot slot (with_proposer m r) set × (proposer_sends m r ≡ []))
    ⊎ (LeadsNow (with_proposer m r) × AsksAll m ballot slot (proposer_sends m r))

module _ (ballot : Ballot) (slot : ℕ) (m : ReplicaState) (set : List Bool) (from : ℕ) (p : Promised) (g : Gathers ballot slot m set)
    (of_ballot : p.ballot ≡ ballot) (of_slot : p.first ≡ slot) (tells : slot ≤ p.last) (once : has_node set from ≡ false)
    (at : slot ≡ position m) (unlearnt : m.learner.learnt slot ≡ None) where
  abbrev joined : Campaigning
  joined = with_promise m.proposer.nodes g.campaign from p

  abbrev now : Proposing
  now = record m.proposer { campaign = Some joined }

  abbrev set' : List Bool
  set' = with_node set from

  it_counts : counts g.campaign from p ≡ true
  it_counts =
      let gathering : not g.campaign.leading ≡ true = not_from_false g.campaign.leading g.gathers in
      let same : same_ballot g.campaign.ballot p.ballot ≡ true =
      (same_ballot_Decides g.campaign.ballot p.ballot).1 (g.ballot_ ∙ sym of_ballot) in
      let first : (p.first == g.campaign.first) ≡ true = eq-eqb p.first g.campaign.first (of_slot ∙ sym g.first) in
      let new : not (has_node g.campaign.promised from) ≡ true =
      not_from_false (has_node g.campaign.promised from) (ap (λ (s : List Bool). has_node s from) g.counted ∙ once) in
      and_from _ _ (and_from _ _ (and_from _ _ gathering same) first) new

  comes_to : with_promised m.proposer from p ≡ now
  comes_to =
      ap (λ (o : Option Campaigning). record m.proposer { campaign = promised m.proposer.nodes from p o }) g.here
      ∙ ap (λ (k : Campaigning). record m.proposer { campaign = Some k })
      (cond-true (counts g.campaign from p) joined g.campaign it_counts)

  leads_if : is_led now.campaign ≡ is_most m.proposer.nodes set'
  leads_if = ap (λ (s : List Bool). is_most m.proposer.nodes (with_node s from)) g.counted

  not_led : is_led m.proposer.campaign ≡ false
  not_led = ap is_led g.here ∙ g.gathers

  within_then : slot ≤ joined.end
  within_then = let low : slot ≤ g.campaign.end = g.within in omega (arith, low, tells)

  -- too few have promised yet
  still_gathers : is_most m.proposer.nodes set' ≡ false → GathersOrLeads ballot slot m set' (now, [])
  still_gathers few = inl (
    record {
      campaign = joined;
      here = refl;
      ballot_ = g.ballot_;
      first = g.first;
      within = within_then;
      none_open = g.none_open;
      gathers = leads_if ∙ few;
      counted = ap (λ (s : List Bool). with_node s from) g.counted;
      too_few = few;
    },
    refl,
  )

  -- a majority has
  abbrev filling : Filling
  filling = window_filled (closed_below (prefix m.learner) joined) m.proposer.waiting m.proposer.learnt_to m.learner

  none_left : (closed_below (prefix m.learner) joined).proposals ≡ []
  none_left = ap (λ (ps : List Proposal). filter (λ q. nat_le (prefix m.learner) q.slot) ps) g.none_open

  filling_opens : Opens ballot slot filling.sent
  filling_opens =
      subst (λ (b : Ballot). Opens b slot filling.sent) g.ballot_
      (window_opens (closed_below (prefix m.learner) joined) m.proposer.waiting m.proposer.learnt_to m.learner slot at g.first unlearnt
      within_then none_left)

  fills_now : is_most m.proposer.nodes set' ≡ true → proposed now m.learner ≡ fills now joined filling
  fills_now most =
      cond-true joined.leading (leads now joined m.learner) (now, []) (leads_if ∙ most)
      ∙ cond-false (nat_lt joined.end (prefix m.learner)) (gathers_on now (Some joined) (prefix m.learner)) (fills now joined filling)
      (le-ltb joined.end (prefix m.learner) (omega (arith, within_then, at)))

  leads_now : is_most m.proposer.nodes set' ≡ true → GathersOrLeads ballot slot m set' (proposed now m.learner)
  leads_now most =
      subst (λ (r : Proposing × List Outgoing). GathersOrLeads ballot slot m set' r) (sym (fills_now most))
      (inr (
        record { campaign = record joined { proposals = filling.proposals }; here = refl; leads = leads_if ∙ most },
        opening_asks m ballot slot filling.sent filling_opens,
      ))

  begins_if : begins_to_lead m.proposer now ≡ is_most m.proposer.nodes set'
  begins_if = ap (λ (b : Bool). not b && is_led now.campaign) not_led ∙ leads_if

  counted_now : GathersOrLeads ballot slot m set' (after_counting m.proposer now m.learner)
  counted_now =
      cond_both (begins_to_lead m.proposer now) (proposed now m.learner) (now, [])
      (λ (r : Proposing × List Outgoing). GathersOrLeads ballot slot m set' r)
      (λ e. leads_now (sym begins_if ∙ e)) (λ e. still_gathers (sym begins_if ∙ e))

  counts_then : GathersOrLeads ballot slot m set' (after_promise m from p)
  counts_then =
      subst (λ (q : Proposing). GathersOrLeads ballot slot m set' (after_counting m.proposer q m.learner)) (sym comes_to) counted_now

-- a promise that counts: the node gathers on and says nothing, or it leads and asks for votes
pub counts_one : (ballot : Ballot) (slot : ℕ) (m : ReplicaState) (set : List Bool) (from : ℕ) (p : Promised)
    → Gathers ballot slot m set → p.ballot ≡ ballot → p.first ≡ slot → slot ≤ p.last → has_node set from ≡ false
    → slot ≡ position m → slot < SLOTS → m.learner.learnt slot ≡ None
    → (Gathers ballot slot (with_proposer m (after_promise m from p)) (with_node set from)
    × (proposer_sends m (after_promise m from p) ≡ []))
    ⊎ (LeadsNow (with_proposer m (after_promise m from p)) × AsksAll m ballot slot (proposer_sends m (after_promise m from p)))
counts_one ballot slot m set from p g of_ballot of_slot tells once at in_log unlearnt =
    counts_then ballot slot m set from p g of_ballot of_slot tells once at unlearnt

-- ---- a later one changes nothing
not_again : (x : Bool) → (not x && x) ≡ false
not_again true = refl
not_again false = refl

pub counts_no_more : (m : ReplicaState) (from : ℕ) (p : Promised) → LeadsNow m → after_promise m from p ≡ (m.proposer, [])
counts_no_more m from p h =
    let old : Proposing = m.proposer in
    let late : counts h.campaign from p ≡ false =
    and_left _ _ (and_left _ _ (and_left (not h.campaign.leading) (same_ballot h.campaign.ballot p.ballot) (ap not h.leads))) in
    let same : promised old.nodes from p old.campaign ≡ old.campaign =
    ap (λ (o : Option Campaigning). promised old.nodes from p o) h.here
    ∙ ap (λ (k : Campaigning). Some k)
    (cond-false (counts h.campaign from p) (with_promise old.nodes h.campaign from p) h.campaign late) ∙ sym h.here in
    let stays : with_promised old from p ≡ old = ap (λ (o : Option Campaigning). record old { campaign = o }) same in
    ap (λ (q : Proposing). after_counting old q m.learner) stays
    ∙ cond-false (begins_to_lead old old) (proposed old m.learner) (old, []) (not_again (is_led old.campaign))

-- ---- a campaign starts
-- it gathers, with nobody's promise
pub starts_gathering : (old : Proposing) (new : ReplicaState) (slot : ℕ) (prepare' : Outgoing)
    → (s : StartsCampaign old slot new.proposer prepare') → slot < SLOTS → Gathers s.ballot slot new no_nodes
starts_gathering old new slot prepare' s in_log =
    let k : Campaigning = campaign.begun s.ballot slot in
    record {
      campaign = k;
      here = ap (λ (p : Proposing). p.campaign) s.leaves;
      ballot_ = refl;
      first = refl;
      within = omega (arith, in_log);
      none_open = refl;
      gathers = refl;
      counted = refl;
      too_few = none_is_few new.proposer.nodes;
    }

-- by a timeout, under this ballot
pub timeout_gathers : (old new : ReplicaState) (said : Response) (ballot : Ballot) → TakesTimeout old new said → position old < SLOTS
    → ballot.round ≡ next_round old.proposer → ballot.node ≡ old.proposer.id → Gathers ballot (position old) new no_nodes
timeout_gathers old new said ballot (prepare', s, leaves, says) in_log round own =
    let same : s.ballot ≡ ballot = one_ballot s.ballot ballot (s.round ∙ sym round) (s.own ∙ sym own) in
    let gathers' = starts_gathering old.proposer new (position old) prepare' s in_log in
    subst (λ (b : Ballot). Gathers b (position old) new no_nodes) same gathers'

-- every node is asked to promise then
pub timeout_asks : (old new : ReplicaState) (said : Response) (ballot : Ballot) → TakesTimeout old new said
    → ballot.round ≡ next_round old.proposer → ballot.node ≡ old.proposer.id
    → said ≡ sent (to_all old.id old.nodes (Prepare ballot (position old)))
timeout_asks old new said ballot (prepare', s, leaves, says) round own =
    let same : s.ballot ≡ ballot = one_ballot s.ballot ballot (s.round ∙ sym round) (s.own ∙ sym own) in
    says ∙ ap (λ (o : Outgoing). sent (envelopes_of old.id old.nodes o)) s.asks_all
    ∙ ap (λ (b : Ballot). sent (to_all old.id old.nodes (Prepare b (position old)))) same
