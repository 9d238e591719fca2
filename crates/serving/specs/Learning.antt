-- What a process knows of its run: who leads it, and how far there were votes. It follows from what passes.
use Rattle.std.specs.Prelude.{◌≡◌, ℕ, nat_lt, if◌then◌else◌, Option, Some, List, fold, Result, Ok, Err}
use Rattle.synod.specs.Ballots.{rank, rank_of}
use Rattle.synod.specs.declared.ballot.Ballot.{Ballot}
use Rattle.wire.specs.FrameReading.{frame_in}
use Rattle.wire.specs.declared.frames.envelope.Envelope.{Envelope}
use Rattle.wire.specs.declared.frames.fault.WireFault.{WireFault}
use Rattle.wire.specs.declared.frames.message.Message.{Message}
use Rattle.wire.specs.declared.frames.message.Message.TheVariants as message
use Rattle.serving.specs.declared.server.Server.{Server}
use Rattle.serving.specs.Requesting.{is_marked}
use Rattle.serving.specs.Serving.{Passes}
use Rattle.serving.specs.Tapes.{Carried, Sent, Arrived, NothingCame, PollFailed}
use Rattle.serving.specs.Timings.{TimingState, above, above_votes}

pub record Known : Type 0 where
  -- the highest ballot that was asked for
  pub highest : Option Ballot
  -- the least number above every slot for which there was a vote
  pub horizon : ℕ

abbrev pub known_in : TimingState → Known
known_in t = record { highest = t.highest; horizon = t.horizon }

-- ---- what a message tells
abbrev pub with_ballot : Ballot → Known → Known
with_ballot ballot k = if nat_lt (rank_of k.highest) (rank ballot) then record k { highest = Some ballot } else k

abbrev pub with_vote : ℕ → Known → Known
with_vote slot k = record k { horizon = above k.horizon slot }

-- one that came
abbrev pub with_message : Message → Known → Known
with_message (message.Prepare ballot first) k = with_ballot ballot k
with_message (message.Accept vote) k = with_vote vote.slot (with_ballot vote.ballot k)
with_message (message.Accepted vote) k = with_vote vote.slot k
with_message (message.Decided slot command) k = with_vote slot k
with_message (message.Promise promise) k = record k { horizon = above_votes k.horizon promise.entries }
with_message other k = k

-- one of its own: that it campaigns, or has voted
abbrev pub with_own : Message → Known → Known
with_own (message.Prepare ballot first) k = with_ballot ballot k
with_own (message.Accepted vote) k = with_vote vote.slot k
with_own other k = k

-- ---- what passes tells: a request that is handed on does nothing, and bytes that are no frame
abbrev pub by_frame : (Message → Known → Known) → Result Envelope WireFault → Known → Known
by_frame told (Ok e) k = told e.message k
by_frame told (Err fault) k = k

abbrev pub learn : ℕ → Known → Carried → Known
learn nodes k (Arrived bytes) = if is_marked bytes then k else by_frame with_message (frame_in nodes bytes) k
learn nodes k (Sent to bytes) = if is_marked bytes then k else by_frame with_own (frame_in 7 bytes) k
learn nodes k NothingCame = k
learn nodes k PollFailed = k

-- what is known now is what was, and what passed has told
abbrev pub Follows : ℕ → TimingState → TimingState → List Carried → Type 0
Follows nodes old new passed = known_in new ≡ fold (learn nodes) (known_in old) passed

-- ---- a process
-- it serves the same node, and learns all that passes and nothing else
pub record Learns {S N : Type 0} (tape : N → List Carried) (Tells : N → Type 0) (old : Server S) (network : N) (new : Server S)
    (network' : N) : Type 0 where
  pub own : new.own ≡ old.own
  pub nodes : new.nodes ≡ old.nodes
  pub follows : Passes tape Tells (Follows old.nodes old.timing new.timing) network network'
