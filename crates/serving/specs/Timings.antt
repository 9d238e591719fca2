-- What a process has seen of the run, and what is due by the clock. Times are in milliseconds.
use Rattle.std.specs.Prelude.{◌≡◌, ℕ, ◌==◌, ◌||◌, ◌&&◌, ◌⊎◌, ◌+◌, ◌-◌, ◌<◌, ◌≤◌, ◌^◌, nat_lt, min, max, Bool, true, false, IsTrue, Option, Some, None, List, fold, if◌then◌else◌, option_map}
use Rattle.synod.specs.Ballots.{rank, rank_of}
use Rattle.synod.specs.declared.ballot.Ballot.{Ballot}
use Rattle.synod.specs.declared.vote.Vote.{Vote}
use Rattle.sessions.specs.declared.command.Command.{Command}
use Rattle.wire.specs.Promises.{Promised}
use Rattle.wire.specs.declared.frames.envelope.Envelope.{Envelope}
use Rattle.wire.specs.declared.frames.message.Message.{Message}
use Rattle.wire.specs.declared.frames.message.Message.TheVariants as message
use Rattle.serving.specs.Patiences.{PatienceState, fresh_patience, next_spread, patience_of}
use Rattle.serving.specs.Recovery.{GoesOn, reach_with}
use Rattle.serving.specs.Ticking.{period_of}

pub record TimingState : Type 0 where
  -- the number of its node
  pub own : ℕ
  pub patience : PatienceState
  -- when it ticked last
  pub ticked : ℕ
  -- the highest ballot that was asked for, as far as it has seen
  pub highest : Option Ballot
  -- how far the promises to that ballot reach
  pub reach : Option ℕ
  -- the least number above every slot of which it has seen a vote
  pub horizon : ℕ
  -- where the node was when it was looked at last
  pub position : ℕ
  -- whether it wanted anything then
  pub is_wanting : Bool
  -- how often it has campaigned
  pub campaigns : ℕ

abbrev pub first_timing : ℕ → ℕ → ℕ → TimingState
first_timing own horizon now = record {
  own = own;
  patience = fresh_patience own now;
  ticked = now;
  highest = None;
  reach = None;
  horizon = horizon;
  position = 0;
  is_wanting = false;
  campaigns = 0;
}

-- the node that leads, as far as it knows
abbrev pub leader_in : TimingState → Option ℕ
leader_in t = option_map (λ ballot. ballot.node) t.highest

-- its patience runs from now on
abbrev pub renewed : ℕ → TimingState → TimingState
renewed now t = record t { patience = record t.patience { since = now } }

-- ---- what it sees
-- a higher ballot than all before it was asked for: who leads is to have time, and no promise to it came yet
abbrev pub ballot_seen : Ballot → ℕ → TimingState → TimingState
ballot_seen ballot now t = if nat_lt (rank_of t.highest) (rank ballot)
    then record (renewed now t) { highest = Some ballot; reach = None } else t

-- the horizon lies above the slots of these votes too
abbrev pub above : ℕ → ℕ → ℕ
above horizon slot = max horizon (slot + 1)

abbrev pub slot_seen : ℕ → TimingState → TimingState
slot_seen slot t = record t { horizon = above t.horizon slot }

abbrev pub above_votes : ℕ → List (Vote Command) → ℕ
above_votes horizon votes = fold (λ end vote. above end vote.slot) horizon votes

-- the ballot is the highest that was asked for
abbrev pub is_highest : Option Ballot → Ballot → Bool
is_highest None ballot = false
is_highest (Some highest) ballot = (highest.round == ballot.round) && (highest.node == ballot.node)

-- a promise tells votes, and where it is one to the highest ballot it counts towards how far promises reach
abbrev pub promise_seen : Promised → TimingState → TimingState
promise_seen p t = record t {
  horizon = above_votes t.horizon p.entries;
  reach = if is_highest t.highest p.ballot then Some (reach_with t.reach p.last) else t.reach;
}

-- what a message tells
abbrev pub seen : Message → ℕ → TimingState → TimingState
seen (message.Prepare ballot first) now t = ballot_seen ballot now t
seen (message.Accept vote) now t = slot_seen vote.slot (ballot_seen vote.ballot now t)
seen (message.Accepted vote) now t = slot_seen vote.slot t
seen (message.Decided slot command) now t = slot_seen slot t
seen (message.Promise promise) now t = promise_seen promise t
seen (message.Nack nack) now t = t
seen (message.Ask slot) now t = t
seen (message.SnapAsk position number) now t = t
seen (message.SnapPart part) now t = t
seen (message.Behind floor) now t = t

-- what a frame of its own tells: that it campaigns, or that it voted
abbrev pub own_seen : Message → ℕ → TimingState → TimingState
own_seen (message.Prepare ballot first) now t = ballot_seen ballot now t
own_seen (message.Accepted vote) now t = slot_seen vote.slot t
own_seen other now t = t

abbrev pub all_own_seen : List Envelope → ℕ → TimingState → TimingState
all_own_seen frames now t = fold (λ known frame. own_seen frame.message now known) t frames

-- ---- what it wants
-- a client waits for a reply, or there were votes for what the node has still to execute
abbrev pub wants : ℕ → Bool → TimingState → Bool
wants position is_asked t = is_asked || nat_lt position t.horizon

-- patience runs from where the node began to want anything, and anew from each progress
abbrev pub position_seen : ℕ → Bool → ℕ → TimingState → TimingState
position_seen position is_asked now t = record (if (position == t.position) && t.is_wanting then t else renewed now t) {
  position = position;
  is_wanting = wants position is_asked t;
}

-- ---- campaigns
-- its own ballot is the highest
abbrev pub is_led_by : ℕ → Option Ballot → Bool
is_led_by own None = false
is_led_by own (Some highest) = highest.node == own

-- it wants something, and has waited long enough for it
pub record IsImpatient (position : ℕ) (is_asked : Bool) (now : ℕ) (t : TimingState) : Type 0 where
  pub wanting : IsTrue (wants position is_asked t)
  pub over : patience_of t.patience ≤ now - t.patience.since

-- nobody asks it for anything, and its own campaign has reached its end, but not that of the votes: a run that was down as a whole
-- comes back so without waiting
pub record Resumes (position : ℕ) (is_asked : Bool) (t : TimingState) : Type 0 where
  pub idle : ¬ IsTrue is_asked
  pub goes_on : GoesOn (is_led_by t.own t.highest) t.reach position t.horizon

-- a node campaigns where its patience has ended, or where its campaign is to go on
abbrev pub IsCampaignDue : ℕ → Bool → ℕ → TimingState → Type 0
IsCampaignDue position is_asked now t = Resumes position is_asked t ⊎ IsImpatient position is_asked now t

-- it has campaigned; a later campaign finds it patient for another time
abbrev pub campaigned : ℕ → TimingState → TimingState
campaigned now t = record t {
  patience = record t.patience { spread = next_spread t.patience.spread; since = now };
  reach = None;
  campaigns = min (t.campaigns + 1) (2 ^ 64 - 1);
}

-- ---- ticks
-- a node ticks where the period since its last tick has passed
abbrev pub IsTickDue : ℕ → Bool → ℕ → TimingState → Type 0
IsTickDue position is_asked now t = period_of (wants position is_asked t) ≤ now - t.ticked

-- ---- how long nothing is due
abbrev pub IsDueByClock : ℕ → Bool → ℕ → TimingState → Type 0
IsDueByClock position is_asked now t = IsCampaignDue position is_asked now t ⊎ IsTickDue position is_asked now t

-- nothing is due before so many milliseconds have passed, and then something is, unless the clock was set back
pub record IsTimeLeft (position : ℕ) (is_asked : Bool) (now left : ℕ) (t : TimingState) : Type 0 where
  pub never_late : (earlier : ℕ) → earlier < left → ¬ IsDueByClock position is_asked (now + earlier) t
  pub due : t.ticked ≤ now → t.patience.since ≤ now → IsDueByClock position is_asked (now + left) t
  -- whatever the clock was set to, it doesn't wait for nothing
  pub at_once : left ≡ 0 → IsDueByClock position is_asked now t

-- in how many milliseconds it ticks, or is impatient
abbrev pub time_left : ℕ → Bool → ℕ → TimingState → ℕ
time_left position is_asked now t = if wants position is_asked t
    then min (period_of true - (now - t.ticked)) (patience_of t.patience - (now - t.patience.since))
    else period_of false - (now - t.ticked)
