-- A proposer's attempt to lead under one ballot: it gathers promises for the slots from the first on, and then it leads.
use Rattle.std.specs.Prelude.{◌≡◌, ◌≢◌, ℕ, zero, suc, ◌+◌, ◌-◌, ◌*◌, ◌==◌, ◌&&◌, ◌||◌, min, not, List, [], ◌∷◌, ◌++◌, Bool, true, false}
use Rattle.std.specs.Prelude.{Option, Some, None}
use Rattle.std.specs.Prelude.{filter, length, nat_lt, nat_le, if◌then◌else◌, map, find, is_some}
use Rattle.std.specs.List.{list_any}
use Rattle.synod.specs.Ballots.{rank}
use Rattle.synod.specs.Majorities.{counted}
use Rattle.synod.specs.declared.ballot.Ballot.{Ballot}
use Rattle.synod.specs.declared.vote.Vote.{Vote}
use Rattle.wire.specs.NodeSets.{no_nodes, has_node, with_node}
use Rattle.wire.specs.Promises.{Promised}
use Rattle.wire.specs.Same.{same_ballot}
use Rattle.sessions.specs.declared.submission.Submission.{Submission}
use Rattle.sessions.specs.declared.command.Command.{Command}
use Rattle.sessions.specs.declared.command.Command.TheVariants.{NoOp, Request}
use Rattle.wire.specs.declared.frames.message.Message.TheVariants as message
use Rattle.proposer.specs.declared.window.Proposal.{Proposal}
use Rattle.proposer.specs.declared.window.TheConstants.{MOST_OPEN}
use Rattle.proposer.specs.declared.sends.Outgoing.{Outgoing}
use Rattle.proposer.specs.declared.sends.Recipients.TheVariants.{All, Others}
use Rattle.learner.specs.Learning.{Learning, learnt_at, prefix}
use Rattle.proposer.specs.Requests.{is_of}

pub record Campaigning : Type 0 where
  pub ballot : Ballot
  -- the promises that it asks for tell of the slots from here on
  pub first : ℕ
  -- whose promise was counted
  pub promised : List Bool
  -- the promises that were counted tell of the slots up to here
  pub end : ℕ
  -- the votes that they tell of these slots
  pub told : List (Vote Command)
  -- a majority has promised
  pub leading : Bool
  -- the open proposals, slots ascending: what is proposed and not learnt yet
  pub proposals : List Proposal

-- nothing is gathered yet
abbrev pub begun : Ballot → ℕ → Campaigning
begun b first = record {
  ballot = b;
  first = first;
  promised = no_nodes;
  end = 65535;
  told = [];
  leading = false;
  proposals = [];
}

-- ---- promises are counted
-- those of the nodes that are in the set are more than half
abbrev pub is_most : ℕ → List Bool → Bool
is_most nodes set = nat_lt nodes (2 * counted (has_node set) nodes)

-- a promise counts while it gathers, for its ballot and its first slot, once a node
abbrev pub counts : Campaigning → ℕ → Promised → Bool
counts k from p = not k.leading && same_ballot k.ballot p.ballot && p.first == k.first && not (has_node k.promised from)

-- the votes up to a slot
abbrev pub up_to : ℕ → List (Vote Command) → List (Vote Command)
up_to end votes = filter (λ v. nat_le v.slot end) votes

-- the campaign with a promise that counts: it leads once a majority has promised
abbrev pub with_promise : ℕ → Campaigning → ℕ → Promised → Campaigning
with_promise nodes k from p = record k {
  promised = with_node k.promised from;
  end = min k.end p.last;
  told = up_to (min k.end p.last) (k.told ++ p.entries);
  leading = is_most nodes (with_node k.promised from);
}

abbrev pub after_promise : ℕ → Campaigning → ℕ → Promised → Campaigning
after_promise nodes k from p = if counts k from p then with_promise nodes k from p else k

-- a promise counts, and of the votes that it tells one is kept
pub record BringsVotes (k : Campaigning) (from : ℕ) (p : Promised) : Type 0 where
  pub counted : counts k from p ≡ true
  pub kept : up_to (min k.end p.last) p.entries ≢ []

-- ---- open proposals
abbrev pub is_at : ℕ → Proposal → Bool
is_at slot p = p.slot == slot

-- the proposal is of the request of this client and number
abbrev pub asks_for : ℕ → ℕ → Command → Bool
asks_for client number NoOp = false
asks_for client number (Request r) = is_of client number r

abbrev pub is_for : ℕ → ℕ → Proposal → Bool
is_for client number p = asks_for client number p.command

-- a proposal at its place
abbrev pub placed : Proposal → List Proposal → List Proposal
placed p [] = p ∷ []
placed p (q ∷ qs) = if nat_lt q.slot p.slot then q ∷ placed p qs else p ∷ q ∷ qs

-- no proposal of the slot is open any more
abbrev pub closed : ℕ → Campaigning → Campaigning
closed slot k = record k { proposals = filter (λ p. not (is_at slot p)) k.proposals }

-- no proposal below the slot is open any more
abbrev pub closed_below : ℕ → Campaigning → Campaigning
closed_below position k = record k { proposals = filter (λ p. nat_le position p.slot) k.proposals }

-- ---- which command is proposed for a slot
-- of two votes the one of the higher ballot
abbrev pub higher : Vote Command → Option (Vote Command) → Vote Command
higher v None = v
higher v (Some u) = if nat_lt (rank v.ballot) (rank u.ballot) then u else v

-- of the votes told at the slot, the one of the highest ballot
abbrev pub told_at : List (Vote Command) → ℕ → Option (Vote Command)
told_at [] slot = None
told_at (v ∷ vs) slot = if v.slot == slot then Some (higher v (told_at vs slot)) else told_at vs slot

-- a vote is told at a greater slot
abbrev pub is_told_after : List (Vote Command) → ℕ → Bool
is_told_after told slot = list_any (λ v. nat_lt slot v.slot) told

-- the first waiting request that is in no open proposal
abbrev pub first_free : List Submission → List Proposal → Option Submission
first_free waiting open' = find (λ r. not (list_any (is_for r.client r.number) open')) waiting

abbrev pub noop_where : Bool → Option Command
noop_where b = if b then Some NoOp else None

abbrev pub request_or : Option Submission → Option Command → Option Command
request_or None other = other
request_or (Some r) other = Some (Request r)

-- where no vote is told: a no-op in a gap, which is below a slot that is told or learnt; else the first free request; else
-- a no-op, where the slot is the campaign's first; else nothing
abbrev pub free_choice : Bool → List Submission → List Proposal → Bool → Option Command
free_choice is_gap waiting open' is_first =
    if is_gap then Some NoOp else request_or (first_free waiting open') (noop_where is_first)

abbrev pub command_or : Option (Vote Command) → Option Command → Option Command
command_or None other = other
command_or (Some v) other = Some v.command

-- the told command, or else the free choice
abbrev pub choice : Campaigning → List Submission → ℕ → ℕ → List Proposal → Option Command
choice k waiting learnt_to slot open' = command_or (told_at k.told slot)
    (free_choice (is_told_after k.told slot || nat_lt (slot + 1) learnt_to) waiting open' (slot == k.first))

-- ---- the window is filled
abbrev pub accept : Ballot → Proposal → Outgoing
accept b p = record { to = All; message = message.Accept (record { slot = p.slot; ballot = b; command = p.command }) }

abbrev pub prepare : Ballot → ℕ → Outgoing
prepare b first = record { to = All; message = message.Prepare b first }

-- the open proposals, and what was sent, while the window is filled
pub record Filling : Type 0 where
  pub proposals : List Proposal
  pub sent : List Outgoing

-- a proposal more
abbrev pub with_proposal : Ballot → Filling → Proposal → Filling
with_proposal b f p = record { proposals = placed p f.proposals; sent = f.sent ++ accept b p ∷ [] }

abbrev pub proposing : Ballot → ℕ → Filling → Option Command → Option Filling
proposing b slot f None = None
proposing b slot f (Some c) = Some (with_proposal b f (record { slot = slot; command = c }))

-- a slot is passed over where it is learnt or its proposal is open; a proposal is opened where there is a choice;
-- else, or where all places of the window are taken, the filling stops
abbrev pub stepped : Campaigning → List Submission → ℕ → Bool → ℕ → Filling → Option Filling
stepped k waiting learnt_to learnt slot f =
    if learnt || list_any (is_at slot) f.proposals then Some f
    else if nat_le MOST_OPEN (length f.proposals) then None
    else proposing k.ballot slot f (choice k waiting learnt_to slot f.proposals)

abbrev pub going_on : Option Filling → Filling → (Filling → Filling) → Filling
going_on None f rest = f
going_on (Some g) f rest = rest g

-- so many slots from one on are gone through, ascending
abbrev pub filled : Campaigning → List Submission → ℕ → (ℕ → Option Command) → ℕ → ℕ → Filling → Filling
filled k waiting learnt_to learnt zero slot f = f
filled k waiting learnt_to learnt (suc n) slot f =
    going_on (stepped k waiting learnt_to (is_some (learnt slot)) slot f) f
    (λ g. filled k waiting learnt_to learnt n (slot + 1) g)

-- one slot is gone through, and whether the next is to follow
abbrev pub IsStep : Option Filling → Bool → Filling → Filling → Type 0
IsStep None goes_on old new = (goes_on ≡ false) × (new ≡ old)
IsStep (Some f) goes_on old new = (goes_on ≡ true) × (new ≡ f)

-- the window goes from the position to seven slots further on, or to end
abbrev pub window_limit : ℕ → ℕ → ℕ
window_limit position end = min (position + 8) (end + 1)

-- the window that begins where the learner's prefix ends
abbrev pub window_filled : Campaigning → List Submission → ℕ → Learning → Filling
window_filled k waiting learnt_to l =
    filled k waiting learnt_to (learnt_at l) (window_limit (prefix l) k.end - prefix l) (prefix l)
    (record { proposals = k.proposals; sent = [] })

-- ---- a tick: what may have been lost is sent again
abbrev pub sends_again : Campaigning → List Outgoing
sends_again k = if k.leading then map (accept k.ballot) k.proposals
    else record { to = Others k.promised; message = message.Prepare k.ballot k.first } ∷ []
