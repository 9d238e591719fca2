-- A node's proposer: the requests that wait at it, and its campaign.
use Rattle.std.specs.Prelude.{◌≡◌, ℕ, zero, ◌+◌, max, List, [], ◌∷◌, Bool, false, Option, Some, None, nat_lt, if◌then◌else◌}
use Rattle.synod.specs.declared.ballot.Ballot.{Ballot}
use Rattle.sessions.specs.declared.submission.Submission.{Submission}
use Rattle.synod.specs.declared.slot.TheConstants.{SLOTS}
use Rattle.learner.specs.Learning.{Learning, prefix}
use Rattle.wire.specs.Promises.{Promised, Refused}
use Rattle.wire.specs.Same.{same_ballot}
use Rattle.proposer.specs.declared.sends.Outgoing.{Outgoing}
use Rattle.proposer.specs.Campaigning.{Campaigning, Filling, begun, after_promise, closed, closed_below, window_filled, prepare}
use Rattle.proposer.specs.Campaigning as campaign

pub record Proposing : Type 0 where
  pub id : ℕ
  pub nodes : ℕ
  -- the greatest round that it has begun, and the greatest of any refusal since it was loaded; 0 for none
  pub round : ℕ
  pub refused : ℕ
  -- one more than the greatest slot that it was told is learnt; 0 for none
  pub learnt_to : ℕ
  pub campaign : Option Campaigning
  -- the oldest first
  pub waiting : List Submission

-- what a restart leaves: the round alone
abbrev pub loaded : ℕ → ℕ → ℕ → Proposing
loaded id nodes round = record {
  id = id;
  nodes = nodes;
  round = round;
  refused = zero;
  learnt_to = zero;
  campaign = None;
  waiting = [];
}

-- ---- a campaign starts, under a round above its own and above every refusal's
abbrev pub next_round : Proposing → ℕ
next_round p = max p.round p.refused + 1

pub record StartsCampaign (old : Proposing) (position : ℕ) (new : Proposing) (sent : Outgoing) : Type 0 where
  pub ballot : Ballot
  pub round : ballot.round ≡ next_round old
  pub own : ballot.node ≡ old.id
  pub leaves : new ≡ record old { round = next_round old; campaign = Some (begun ballot position) }
  pub asks_all : sent ≡ prepare ballot position

-- ---- what comes
abbrev pub promised : ℕ → ℕ → Promised → Option Campaigning → Option Campaigning
promised nodes from p None = None
promised nodes from p (Some k) = Some (after_promise nodes k from p)

abbrev pub with_promised : Proposing → ℕ → Promised → Proposing
with_promised p from promise = record p { campaign = promised p.nodes from promise p.campaign }

-- a refusal of the campaign's ballot ends it
abbrev pub unless_refused : Refused → Option Campaigning → Option Campaigning
unless_refused n None = None
unless_refused n (Some k) = if same_ballot k.ballot n.ballot then None else Some k

abbrev pub after_nack : Proposing → Refused → Proposing
after_nack p n = record p { refused = max p.refused n.promised.round; campaign = unless_refused n p.campaign }

abbrev pub learnt_in : ℕ → Option Campaigning → Option Campaigning
learnt_in slot None = None
learnt_in slot (Some k) = Some (closed slot k)

abbrev pub after_learned : Proposing → ℕ → Proposing
after_learned p slot = record p { learnt_to = max p.learnt_to (slot + 1); campaign = learnt_in slot p.campaign }

-- a snapshot stands for the slots below this one: no proposal for them is open any more
abbrev pub closed_to : ℕ → Option Campaigning → Option Campaigning
closed_to position None = None
closed_to position (Some k) = Some (closed_below position k)

abbrev pub skipped_to : Proposing → ℕ → Proposing
skipped_to p position = record p { campaign = closed_to position p.campaign }

-- ---- a leader proposes
-- a campaign leads
abbrev pub is_led : Option Campaigning → Bool
is_led None = false
is_led (Some k) = k.leading

-- it gathers further on, where the log has slots left and a request waits
abbrev pub gathers : List Submission → ℕ → Bool
gathers [] position = false
gathers (r ∷ rs) position = nat_lt position SLOTS

abbrev pub gathers_on : Proposing → Option Campaigning → ℕ → Proposing × List Outgoing
gathers_on p None position = (p, [])
gathers_on p (Some k) position =
    if gathers p.waiting position then (
      record p { campaign = Some (begun k.ballot position) },
      prepare k.ballot position ∷ [],
    ) else (p, [])

-- it fills its window
abbrev pub fills : Proposing → Campaigning → Filling → Proposing × List Outgoing
fills p k f = (record p { campaign = Some (record k { proposals = f.proposals }) }, f.sent)

-- a leader, and what it sends: past end it gathers further on under the same ballot, or else it fills its window
abbrev pub leads : Proposing → Campaigning → Learning → Proposing × List Outgoing
leads p k l =
    if nat_lt k.end (prefix l) then gathers_on p (Some k) (prefix l)
    else fills p k (window_filled (closed_below (prefix l) k) p.waiting p.learnt_to l)

abbrev pub proposes : Proposing → Option Campaigning → Learning → Proposing × List Outgoing
proposes p None l = (p, [])
proposes p (Some k) l = if k.leading then leads p k l else (p, [])

-- ---- a tick
abbrev pub sends_again : Option Campaigning → List Outgoing
sends_again None = []
sends_again (Some k) = campaign.sends_again k
