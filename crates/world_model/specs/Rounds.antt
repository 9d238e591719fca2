-- A round by hand: a node's campaign among some members alone. Each phase hands on what was sent in the phase before; how the
-- round ends, and what it leaves.
use Rattle.std.specs.Prelude.{◌≡◌, ◌≢◌, ◌⊎◌, ℕ, suc, ◌<◌, ◌≤◌, List, [], ◌∷◌, length, drop, slice_get, All, AllPairs, Any, Contains, Bool}
use Rattle.std.specs.Prelude.{true, false, Option, Some, None, IfSome, is_some, nat_lt, if◌then◌else◌}
use Rattle.stable.specs.Script.{Script}
use Rattle.stable.specs.declared.stable.Stable.{Ghosts}
use Rattle.synod.specs.Ballots.{rank}
use Rattle.synod.specs.Majorities.{IsMajority}
use Rattle.synod.specs.declared.ballot.Ballot.{Ballot}
use Rattle.wire.specs.declared.frames.envelope.Envelope.{Envelope}
use Rattle.wire.specs.declared.frames.message.Message.{Message}
use Rattle.wire.specs.declared.frames.message.Message.TheVariants.{Nack}
use Rattle.node_model.specs.declared.fault.NodeFault.{NodeFault}
use Rattle.node_model.specs.declared.input.Input.TheVariants as input
use Rattle.node_model.specs.Replicas.{ReplicaState, position, refuses}
use Rattle.node_model.specs.States.{NodeState}
use Rattle.world_model.specs.declared.lists.StepOutcome.TheVariants as outcome
use Rattle.world_model.specs.declared.round_end.RoundEnd.{RoundEnd}
use Rattle.world_model.specs.declared.round_end.RoundEnd.TheVariants.{NotAQuorum, Down, Behind, Refused, Stopped, TooLow, Decided}
use Rattle.world_model.specs.Worlds.{WorldState, replica_at, TakesAt, DeliversFrame, with_outcome}

-- ---- the members
-- the node, or a member, is none of so many
abbrev pub NamesNoMember : ℕ → ℕ → List ℕ → Type 0
NamesNoMember nodes node members = (nodes ≤ node) ⊎ Any (λ m. nodes ≤ m) members

-- they are more than half of so many nodes, none of them twice, and the node is one of them
pub record IsQuorum (nodes node : ℕ) (members : List ℕ) : Type 0 where
  pub most : IsMajority nodes (length members)
  pub none_twice : AllPairs ◌≢◌ members
  pub own : Contains members node

-- node m is there, and up
abbrev pub is_up_node : {S : Type 0} → Option (NodeState S) → Bool
is_up_node None = false
is_up_node (Some n) = is_some n.up

abbrev pub is_up : {S : Type 0} → WorldState S → ℕ → Bool
is_up w m = is_up_node (slice_get w.nodes m)

-- m is the lowest member that is down
pub record IsLowestDown {S : Type 0} (w : WorldState S) (members : List ℕ) (m : ℕ) : Type 0 where
  pub member : Contains members m
  pub down : is_up w m ≡ false
  pub lowest : (i : ℕ) → Contains members i → i < m → is_up w i ≡ true

abbrev pub AreUp : {S : Type 0} → WorldState S → List ℕ → Type 0
AreUp w members = (m : ℕ) → Contains members m → is_up w m ≡ true

-- the node is behind node m: the acceptor there may not speak of the node's position any more
pub record IsBehind {S : Type 0} (w : WorldState S) (node m : ℕ) : Type 0 where
  pub own : ReplicaState
  pub here : replica_at w node ≡ Some own
  pub other : ReplicaState
  pub there : replica_at w m ≡ Some other
  pub above : position own < other.acceptor.floor

-- m is the lowest member that the node is behind
pub record IsLowestBehind {S : Type 0} (w : WorldState S) (node : ℕ) (members : List ℕ) (m : ℕ) : Type 0 where
  pub member : Contains members m
  pub behind : IsBehind w node m
  pub lowest : (i : ℕ) → Contains members i → i < m → IsBehind w node i → ⊥

-- the members are a quorum, all of them are up, and each may speak of the node's position
pub record CanMeet {S : Type 0} (w : WorldState S) (node : ℕ) (members : List ℕ) : Type 0 where
  pub quorum : IsQuorum (length w.nodes) node members
  pub up : AreUp w members
  pub level : (p m : ReplicaState) (i : ℕ) → Contains members i → replica_at w node ≡ Some p → replica_at w i ≡ Some m
      → m.acceptor.floor ≤ position p

-- ---- the node
-- its position is this
pub record PositionIsAt {S : Type 0} (w : WorldState S) (node slot : ℕ) : Type 0 where
  pub state : NodeState (Script S)
  pub here : slice_get w.nodes node ≡ Some state
  pub replica : ReplicaState
  pub up : state.up ≡ Some replica
  pub position_ : slot ≡ position replica

-- it refuses to begin a campaign
pub record RefusesToBegin {S : Type 0} (w : WorldState S) (node : ℕ) (f : NodeFault) : Type 0 where
  pub state : NodeState (Script S)
  pub here : slice_get w.nodes node ≡ Some state
  pub replica : ReplicaState
  pub up : state.up ≡ Some replica
  pub refused : refuses replica input.Timeout ≡ Some f

-- ---- refusals
-- the promise that a message tells by which its sender refuses a ballot
abbrev pub refusal_in : Message → Option Ballot
refusal_in (Nack n) = Some n.promised
refusal_in other = None

-- the one of two that isn't below the other, if there are any
abbrev pub greater : Option Ballot → Option Ballot → Option Ballot
greater None other = other
greater (Some one) None = Some one
greater (Some one) (Some other) = if nat_lt (rank one) (rank other) then Some other else Some one

abbrev pub NoneRefuses : List Envelope → Type 0
NoneRefuses frames = All (λ e. refusal_in e.message ≡ None) frames

-- some refuse, and this is the greatest promise that they tell
pub record IsGreatestTold (frames : List Envelope) (greatest : Ballot) : Type 0 where
  pub frame : Envelope
  pub among : Contains frames frame
  pub tells : refusal_in frame.message ≡ Some greatest
  pub most : All (λ e. IfSome (refusal_in e.message) (λ b. rank b ≤ rank greatest)) frames

-- ---- frames that come
module _ {S : Type 0} (storages : Ghosts (Script S)) where
  -- of the frames from `first` on, below a number, those that go to these nodes come there, in order of sending, and each
  -- receiver stays up
  pub data DeliversTo (receivers : List ℕ) (old : WorldState S) (first : ℕ) : ℕ → WorldState S → Type 0 where
    nothing : DeliversTo receivers old first first old
    elsewhere : (k : ℕ) (e : Envelope) (new : WorldState S) → DeliversTo receivers old first k new
        → slice_get new.frames k ≡ Some e → (Contains receivers e.to → ⊥) → DeliversTo receivers old first (suc k) new
    there : (k : ℕ) (e : Envelope) (between new : WorldState S) → DeliversTo receivers old first k between
        → slice_get between.frames k ≡ Some e → Contains receivers e.to → DeliversFrame storages between k new
        → is_up new e.to ≡ true → DeliversTo receivers old first (suc k) new

  -- so some of them come, and by the next one its receiver m goes down
  pub record GoesDownOn (receivers : List ℕ) (old : WorldState S) (first m : ℕ) (new : WorldState S) : Type 0 where
    pub frame : ℕ
    pub envelope : Envelope
    pub between : WorldState S
    pub before : DeliversTo receivers old first frame between
    pub sent : frame < length old.frames
    pub is : slice_get between.frames frame ≡ Some envelope
    pub receiver : Contains receivers envelope.to
    pub named : m ≡ envelope.to
    pub delivers : DeliversFrame storages between frame new
    pub down : is_up new m ≡ false

  -- so some of them come, of those that were sent by then
  pub record DeliversPart (receivers : List ℕ) (old : WorldState S) (first : ℕ) (new : WorldState S) : Type 0 where
    pub end : ℕ
    pub within : end ≤ length old.frames
    pub delivers : DeliversTo receivers old first end new

  -- a node goes down where its campaign is to begin
  pub record FailsToBegin (old : WorldState S) (node : ℕ) (new : WorldState S) : Type 0 where
    pub takes : TakesAt storages old node input.Timeout false new
    pub down : is_up new node ≡ false

-- ---- phases
pub data Phase : Type 0 where
  -- the campaign has begun: its prepares are sent
  begun : Phase
  -- they have come to the members, whose answers are sent
  asked : Phase
  -- these have come to the node, and none refuses: its accepts are sent
  answered : Phase
  -- they have come to the members, whose votes are told
  voted : Phase
  -- these have come to the node
  heard : Phase

-- to whom goes what was sent in the phase
abbrev pub receivers_after : Phase → ℕ → List ℕ → List ℕ
receivers_after begun node members = members
receivers_after asked node members = node ∷ []
receivers_after answered node members = members
receivers_after voted node members = node ∷ []
receivers_after heard node members = []

module _ {S : Type 0} (storages : Ghosts (Script S)) (old : WorldState S) (node : ℕ) (members : List ℕ) where
  -- the round has come through the phase, in which the frames from a number on were sent
  pub data ComesThrough : Phase → ℕ → WorldState S → Type 0 where
    begins : (new : WorldState S) → TakesAt storages old node input.Timeout true new
        → ComesThrough begun (length old.frames) new
    asks : (first : ℕ) (between new : WorldState S) → ComesThrough begun first between
        → DeliversTo storages members between first (length between.frames) new
        → ComesThrough asked (length between.frames) new
    answers : (first : ℕ) (between new : WorldState S) → ComesThrough asked first between
        → NoneRefuses (drop first between.frames)
        → DeliversTo storages (node ∷ []) between first (length between.frames) new
        → ComesThrough answered (length between.frames) new
    votes : (first : ℕ) (between new : WorldState S) → ComesThrough answered first between
        → DeliversTo storages members between first (length between.frames) new
        → ComesThrough voted (length between.frames) new
    hears : (first : ℕ) (between new : WorldState S) → ComesThrough voted first between
        → DeliversTo storages (node ∷ []) between first (length between.frames) new
        → ComesThrough heard (length between.frames) new

  -- the node goes down where its campaign is to begin, or a receiver on what was sent in a phase
  pub data GoesDown (m : ℕ) (new : WorldState S) : Type 0 where
    at_once : FailsToBegin storages old node new → m ≡ node → GoesDown m new
    on_the_way : (phase : Phase) (first : ℕ) (between : WorldState S) → ComesThrough phase first between
        → GoesDownOn storages (receivers_after phase node members) between first m new → GoesDown m new

  -- the answers have come, and some refuse: this is the greatest promise that they tell
  pub record RoundIsRefused (greatest : Ballot) (new : WorldState S) : Type 0 where
    pub first : ℕ
    pub between : WorldState S
    pub comes : ComesThrough asked first between
    pub greatest_ : IsGreatestTold (drop first between.frames) greatest
    pub delivers : DeliversTo storages (node ∷ []) between first (length between.frames) new

  -- all phases are over
  pub record SlotIsDecided (slot : ℕ) (new : WorldState S) : Type 0 where
    pub at : PositionIsAt old node slot
    pub first : ℕ
    pub comes : ComesThrough heard first new

  -- ---- how it ends, each end in its case
  -- of members that can meet
  abbrev pub MeetingEnds : RoundEnd → WorldState S → Type 0
  MeetingEnds NotAQuorum new = ⊥
  MeetingEnds (Down m) new = ⊥
  MeetingEnds (Behind m) new = ⊥
  MeetingEnds (Refused f) new = RefusesToBegin old node f × (new ≡ old)
  MeetingEnds (Stopped m) new = GoesDown m new
  MeetingEnds (TooLow greatest) new = RoundIsRefused greatest new
  MeetingEnds (Decided slot) new = SlotIsDecided slot new

  abbrev pub RoundEndsIn : RoundEnd → WorldState S → Type 0
  RoundEndsIn NotAQuorum new = (IsQuorum (length old.nodes) node members → ⊥) × (new ≡ old)
  RoundEndsIn (Down m) new = IsQuorum (length old.nodes) node members × IsLowestDown old members m × (new ≡ old)
  RoundEndsIn (Behind m) new = IsQuorum (length old.nodes) node members × AreUp old members × IsLowestBehind old node members m × (new ≡ old)
  RoundEndsIn (Refused f) new = CanMeet old node members × MeetingEnds (Refused f) new
  RoundEndsIn (Stopped m) new = CanMeet old node members × MeetingEnds (Stopped m) new
  RoundEndsIn (TooLow greatest) new = CanMeet old node members × MeetingEnds (TooLow greatest) new
  RoundEndsIn (Decided slot) new = CanMeet old node members × MeetingEnds (Decided slot) new

  -- and the end is told
  pub record RoundEnds (end : RoundEnd) (new : WorldState S) : Type 0 where
    pub reached : WorldState S
    pub ends : RoundEndsIn end reached
    pub leaves : new ≡ with_outcome reached (outcome.Round node end)

  -- ---- where memory is wanting
  -- it has come through a phase, and some of what was sent in it has come
  pub record HasBegun (new : WorldState S) : Type 0 where
    pub phase : Phase
    pub first : ℕ
    pub between : WorldState S
    pub comes : ComesThrough phase first between
    pub delivers : DeliversPart storages (receivers_after phase node members) between first new

  -- nothing is done; or a beginning of a round; or all of it, but that its end is told
  pub data IsPartOfRound (new : WorldState S) : Type 0 where
    none : new ≡ old → IsPartOfRound new
    some : CanMeet old node members → HasBegun new → IsPartOfRound new
    untold : (end : RoundEnd) → RoundEndsIn end new → IsPartOfRound new

  -- of members that can meet
  abbrev pub RoundIsInterrupted : WorldState S → Type 0
  RoundIsInterrupted new = (new ≡ old) ⊎ HasBegun new

-- ---- a part of a round, whatever led to it
module _ {S : Type 0} (storages : Ghosts (Script S)) (node : ℕ) (members : List ℕ) (phase : Phase) (first : ℕ) (now : WorldState S) where
  -- each round that has come through the phase by now, in which the frames from a number on were sent, comes through a later one
  abbrev pub GoesOn : Phase → ℕ → WorldState S → Type 0
  GoesOn later next new = (old : WorldState S) → ComesThrough storages old node members phase first now
      → ComesThrough storages old node members later next new

  -- it ends so
  abbrev pub GoesToItsEnd : RoundEnd → WorldState S → Type 0
  GoesToItsEnd end new = (old : WorldState S) → ComesThrough storages old node members phase first now
      → MeetingEnds storages old node members end new

  -- memory is wanting to it
  abbrev pub RoundBreaksOff : WorldState S → Type 0
  RoundBreaksOff new = (old : WorldState S) → ComesThrough storages old node members phase first now
      → HasBegun storages old node members new
