-- The protocol's moves lead to every world whose storages are honest.
use Rattle.std.specs.Prelude.{◌≡◌, ◌↔◌, ◌⊎◌, ℕ, List, [], map, length, slice_get, Some, None, IfSome, IsSome, Contains}
use Rattle.synod.specs.Records as synod_records
use Rattle.synod.specs.Records.{VoteWrite}
use Rattle.synod.specs.History.{History}
use Rattle.synod.specs.Acts as acts
use Rattle.synod.specs.Acts.{Local, Does}
use Rattle.synod.specs.Runs as synod_runs
use Rattle.synod.specs.Runs.{HasCome, IsReached}
use Rattle.synod.specs.declared.vote.Vote.{Vote}
use Rattle.stable.specs.Records.{Records}
use Rattle.stable.specs.Script.{Script, Write, PutShows}
use Rattle.stable.specs.declared.key.Key.{Key}
use Rattle.acceptor.specs.Forms.{VoteFitsRecord}
use Rattle.sessions.specs.declared.command.Command.{Command}
use Rattle.wire.specs.declared.frames.envelope.Envelope.{Envelope}
use Rattle.world_model.specs.declared.lists.Submitted.{Submitted}
use Rattle.world_model.specs.declared.lists.LearntEntry.{LearntEntry}
use Rattle.node_model.specs.Protocol.{RecordsAgree, HoldsRecords, ReplicaStands}
use Rattle.node_model.specs.States.{NodeState}
use Rattle.world_model.specs.Protocol.{membership, frame_of, learnt_as, command_of}
use Rattle.world_model.specs.Voting.{vote_put, HasVote}

-- a node's records say what the protocol's records do, and where it is up it holds what they say, and stands for the
-- protocol's replica
pub record NodeStands {S : Type 0} (contents : Script S → Records) (n : NodeState (Script S)) (x : Local Command) : Type 0 where
  pub records : RecordsAgree (contents n.storage) x.records
  pub up : IfSome n.up (λ m. HoldsRecords m (contents n.storage) × ReplicaStands m x)

-- ---- the list of writes
-- the put took effect: it is listed, or it is the one that is unsure, and the records show it
abbrev pub TookEffect : {S : Type 0} → (Script S → Records) → Script S → Write → Type 0
TookEffect contents s write = Contains s.writes write ⊎ ((s.unsure ≡ Some write) × PutShows (contents s) write)

-- what a key holds was put under it
abbrev pub HoldsPut : {S : Type 0} → (Script S → Records) → Script S → Key → Type 0
HoldsPut contents s key = IfSome (contents s key) (λ bytes. TookEffect contents s (key, bytes))

-- each key holds what was put, and the protocol's votes are those that were put
pub record PutsStand {S : Type 0} (contents : Script S → Records) (s : Script S) (r : synod_records.NodeRecords Command) : Type 0 where
  pub held : (key : Key) → HoldsPut contents s key
  pub fit : (v : Vote Command) → Contains r.writes (VoteWrite v) → VoteFitsRecord v
  pub put : (v : Vote Command) → Contains r.writes (VoteWrite v) → TookEffect contents s (vote_put v)
  pub cast : (v : Vote Command) → VoteFitsRecord v → TookEffect contents s (vote_put v) → Contains r.writes (VoteWrite v)

-- the protocol's votes are those that the list of writes tells
abbrev pub VotesAreListed : {S : Type 0} → Script S → synod_records.NodeRecords Command → Type 0
VotesAreListed s r = (v : Vote Command) → Contains r.writes (VoteWrite v) ↔ HasVote s.writes v

-- node i has come to x in the protocol, where it has voted as its list of writes tells. Where a put is unsure the node
-- is down, and what stands for it comes after acts that tell nothing: that put's, where it took effect
pub record StandsAt {S : Type 0} (contents : Script S → Records) (nodes i : ℕ) (past : History Command) (x : Local Command)
    (n : NodeState (Script S)) : Type 0 where
  pub listed : VotesAreListed n.storage x.records
  pub input : acts.Input Command
  pub came : HasCome past input
  pub after : Local Command
  pub does : Does (membership nodes) i input x after
  pub unsent : after.sent ≡ []
  pub unlearnt : after.learnt ≡ []
  pub unsubmitted : after.submitted ≡ []
  pub stands : NodeStands contents n after
  pub puts : PutsStand contents n.storage after.records
  pub sure : n.storage.unsure ≡ None → after ≡ x
  pub up : IsSome n.up → n.storage.unsure ≡ None

-- the nodes and the lists are those of the protocol's world
pub record WorldStands {S : Type 0} (contents : Script S → Records) (nodes : List (NodeState (Script S)))
    (frames : List Envelope) (learnt : List LearntEntry) (submitted : List Submitted) (w : synod_runs.World Command) : Type 0 where
  pub node : (i : ℕ) (n : NodeState (Script S)) → slice_get nodes i ≡ Some n
      → StandsAt contents (length nodes) i w.past (synod_runs.here w i) n
  pub frames_ : w.past.frames ≡ map frame_of frames
  pub learnt_ : w.past.learnt ≡ map learnt_as learnt
  pub submitted_ : w.past.submitted ≡ map command_of submitted

-- moves that the protocol allows lead there
pub record IsAllowed {S : Type 0} (contents : Script S → Records) (nodes : List (NodeState (Script S)))
    (frames : List Envelope) (learnt : List LearntEntry) (submitted : List Submitted) : Type 0 where
  pub state : synod_runs.World Command
  pub reached : IsReached (membership (length nodes)) state
  pub stands : WorldStands contents nodes frames learnt submitted state

-- every storage is honest
abbrev pub AreHonest : {S : Type 0} → (Script S → Type 0) → List (NodeState (Script S)) → Type 0
AreHonest {S} IsHonest nodes = (i : ℕ) (n : NodeState (Script S)) → slice_get nodes i ≡ Some n → IsHonest n.storage
