-- What a proposer's state and what it sends are to the protocol.
use Rattle.std.specs.Prelude.{◌≡◌, ℕ, ◌==◌, List, [], ◌∷◌, ◌++◌, Option, Some, None, Contains, not, if◌then◌else◌}
use Rattle.std.specs.Prelude.{filter, length}
use Rattle.synod.specs.Messages.{Frame, to_first}
use Rattle.synod.specs.Volatile.{Campaign, blank}
use Rattle.synod.specs.Records as synod
use Rattle.synod.specs.Acts.{Membership, Input, Local, Does}
use Rattle.sessions.specs.declared.submission.Submission.{Submission}
use Rattle.sessions.specs.declared.command.Command.{Command}
use Rattle.sessions.specs.declared.command.Command.TheVariants.{Request}
use Rattle.wire.specs.NodeSets.{has_node}
use Rattle.wire.specs.Protocol.{message_of}
use Rattle.proposer.specs.declared.sends.Outgoing.{Outgoing}
use Rattle.proposer.specs.declared.sends.Recipients.{Recipients}
use Rattle.proposer.specs.declared.sends.Recipients.TheVariants.{All, Others}
use Rattle.proposer.specs.declared.window.Proposal.{Proposal}
use Rattle.proposer.specs.Campaigning.{Campaigning}
use Rattle.proposer.specs.Proposing.{Proposing}

-- what is proposed at a slot
abbrev pub proposed_at : List Proposal → ℕ → Option Command
proposed_at [] s = None
proposed_at (p ∷ ps) s = if p.slot == s then Some p.command else proposed_at ps s

-- no two proposals are of one slot
abbrev pub ProposalsAreApart : List Proposal → Type 0
ProposalsAreApart [] = Unit {0}
ProposalsAreApart (p ∷ ps) = (proposed_at ps p.slot ≡ None) × ProposalsAreApart ps

-- the protocol's campaign is this one
pub record CampaignStands (k : Campaigning) (q : Campaign Command) : Type 0 where
  pub ballot : q.ballot ≡ k.ballot
  pub first : q.first ≡ k.first
  pub promised : (a : ℕ) → q.promised a ≡ has_node k.promised a
  pub end_ : q.end ≡ k.end
  pub told : q.told ≡ k.told
  pub leading : q.leading ≡ k.leading
  pub proposals : (s : ℕ) → q.proposals s ≡ proposed_at k.proposals s
  -- the set has a flag for each node that a membership may have, and each slot one proposal at most
  pub flags : length k.promised ≡ 7
  pub apart : ProposalsAreApart k.proposals

abbrev pub CampaignsStand : Option Campaigning → Option (Campaign Command) → Type 0
CampaignsStand None q = q ≡ None
CampaignsStand (Some k) q = (c : Campaign Command) × (q ≡ Some c) × CampaignStands k c

-- the protocol's records and replica say what the proposer holds
pub record ProposerStands (p : Proposing) (x : Local Command) : Type 0 where
  pub round : x.records.round ≡ p.round
  pub campaign : CampaignsStand p.campaign x.replica.campaign
  pub waiting : (r : Submission) → Contains p.waiting r → Contains x.replica.waiting (Request r)

-- the frames of a message from node i of so many
abbrev pub frames_to : ℕ → ℕ → Recipients → List (Frame Command) → List (Frame Command)
frames_to i nodes All frames = frames
frames_to i nodes (Others set) frames = filter (λ f. not (has_node set f.receiver)) frames

abbrev pub frames_of : ℕ → ℕ → Outgoing → List (Frame Command)
frames_of i nodes o = frames_to i nodes o.to (to_first nodes i (message_of o.message))

-- those of one message after the other
abbrev pub frames_of_all : ℕ → ℕ → List Outgoing → List (Frame Command)
frames_of_all i nodes [] = []
frames_of_all i nodes (o ∷ os) = frames_of i nodes o ++ frames_of_all i nodes os

-- from x the node may come to another campaign of which the proposer's state stands, and nothing else changes
pub record MayHold (f : Membership Command) (i : ℕ) (input : Input Command) (x : Local Command) (p : Proposing) : Type 0 where
  pub campaign : Option (Campaign Command)
  pub does : Does f i input x (record x { replica = record x.replica { campaign = campaign } })
  pub stands : ProposerStands p (record x { replica = record x.replica { campaign = campaign } })

-- from x the node may come to records of another round and to another campaign, of which the proposer's state stands, and
-- have sent these frames, and nothing else changes: of the records the promise, the votes and the floor stay
pub record MaySend (f : Membership Command) (i : ℕ) (input : Input Command) (x : Local Command) (p : Proposing)
    (frames : List (Frame Command)) : Type 0 where
  pub campaign : Option (Campaign Command)
  pub records : synod.NodeRecords Command
  pub keeps : (records.promise ≡ x.records.promise) × (records.vote ≡ x.records.vote) × (records.floor ≡ x.records.floor)
  pub does : Does f i input x (record x {
    records = records;
    replica = record x.replica { campaign = campaign };
    sent = x.sent ++ frames;
  })
  pub stands : ProposerStands p (record x {
    records = records;
    replica = record x.replica { campaign = campaign };
    sent = x.sent ++ frames;
  })

-- from x the node may come to y, and there the proposer's state stands
pub record MayCome (f : Membership Command) (i : ℕ) (input : Input Command) (x : Local Command) (p : Proposing) (y : Local Command) : Type 0
  where
    pub does : Does f i input x y
    pub stands : ProposerStands p y

-- the request is submitted
abbrev pub submitting : Local Command → Submission → Local Command
submitting x r = record x {
  replica = record x.replica { waiting = x.replica.waiting ++ Request r ∷ [] };
  submitted = x.submitted ++ Request r ∷ [];
}

-- the log is executed up to here
abbrev pub advancing : Local Command → ℕ → Local Command
advancing x position = record x { replica = record x.replica { position = position } }

-- all but these records is lost
abbrev pub stopping : Local Command → synod.NodeRecords Command → Local Command
stopping x records = record x { records = records; replica = blank }
