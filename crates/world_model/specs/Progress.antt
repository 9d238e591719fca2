-- What is promised of progress: a round by hand that nothing disturbs decides, or tells the promise that was in its way, or
-- ends as a member goes down.
use Rattle.std.specs.Prelude.{◌≡◌, ℕ, ◌<◌, ◌≤◌, ◌⊎◌, ◌^◌, List, [], ◌∷◌, ◌++◌, Some, None, IsSome, Contains, slice_get}
use Rattle.stable.specs.Script.{Script}
use Rattle.stable.specs.declared.scripted.Failing.TheVariants.{Read}
use Rattle.stable.specs.declared.stable.Stable.{Ghosts}
use Rattle.synod.specs.Ballots.{rank, rank_of}
use Rattle.synod.specs.declared.ballot.Ballot.{Ballot}
use Rattle.synod.specs.declared.slot.TheConstants.{SLOTS}
use Rattle.node_model.specs.declared.fault.NodeFault.{NodeFault}
use Rattle.node_model.specs.declared.fault.NodeFault.TheVariants as fault
use Rattle.node_model.specs.Replicas.{ReplicaState, position, promised, learnt_in, IsNextBallot}
use Rattle.node_model.specs.States.{NodeState}
use Rattle.events.specs.declared.event.Event.{Event}
use Rattle.events.specs.declared.event.Event.TheVariants as event
use Rattle.world_model.specs.declared.lists.StepOutcome.{StepOutcome}
use Rattle.world_model.specs.declared.lists.StepOutcome.TheVariants as outcome
use Rattle.world_model.specs.declared.round_end.RoundEnd.{RoundEnd}
use Rattle.world_model.specs.declared.round_end.RoundEnd.TheVariants.{Stopped, TooLow, Decided}
use Rattle.world_model.specs.Fired.{AreHonestInside}
use Rattle.world_model.specs.Reaching.{IsAllowed, AreHonest}
use Rattle.world_model.specs.Rounds.{CanMeet}
use Rattle.world_model.specs.Worlds.{WorldState, Steps, with_node, with_outcome}
pub use Rattle.world_model.specs.Worlds.{replica_in, replica_at}

-- ---- before the round
-- nothing disturbs it: the members can meet, the log has a slot at the node's position, and the node a ballot of a round that is left
pub record IsUndisturbed {S : Type 0} (w : WorldState S) (node : ℕ) (members : List ℕ) (slot : ℕ) (ballot : Ballot) : Type 0 where
  pub meets : CanMeet w node members
  pub replica : ReplicaState
  pub here : replica_at w node ≡ Some replica
  pub at : slot ≡ position replica
  pub in_log : slot < SLOTS
  pub next : IsNextBallot replica ballot
  pub left : ballot.round < 2 ^ 64

-- no member has promised a greater ballot
abbrev pub NoneAbove : {S : Type 0} → WorldState S → List ℕ → Ballot → Type 0
NoneAbove w members ballot = (m : ℕ) (replica : ReplicaState) → Contains members m → replica_at w m ≡ Some replica → rank_of (promised replica) ≤ rank ballot

-- a member has promised a greater ballot, and this is the greatest that any member has promised
pub record IsGreatestAbove {S : Type 0} (w : WorldState S) (members : List ℕ) (ballot greatest : Ballot) : Type 0 where
  pub member : ℕ
  pub replica : ReplicaState
  pub among : Contains members member
  pub here : replica_at w member ≡ Some replica
  pub has : promised replica ≡ Some greatest
  pub above : rank ballot < rank greatest
  pub most : NoneAbove w members greatest

-- ---- after the round
-- the node has learnt what the slot holds
pub record NodeHasLearnt {S : Type 0} (w : WorldState S) (node slot : ℕ) : Type 0 where
  pub replica : ReplicaState
  pub here : replica_at w node ≡ Some replica
  pub learnt : IsSome (learnt_in replica slot)

-- the node's next ballot is above this one
pub record IsAbove {S : Type 0} (w : WorldState S) (node : ℕ) (ballot : Ballot) : Type 0 where
  pub replica : ReplicaState
  pub here : replica_at w node ≡ Some replica
  pub next : (b : Ballot) → IsNextBallot replica b → rank ballot < rank b

-- the last that was told is that a member went down, for want of memory or by a failure of its device
pub record HasStopped {S : Type 0} (w : WorldState S) (members : List ℕ) (member : ℕ) : Type 0 where
  pub among : Contains members member
  pub failure : NodeFault
  pub kind : (failure ≡ fault.Memory) ⊎ (failure ≡ fault.Device)
  pub before : List StepOutcome
  pub told : w.outcomes ≡ before ++ outcome.Stopped member failure ∷ []

abbrev pub RoundIsStopped : RoundEnd → Type 0
RoundIsStopped end = (m : ℕ) × (end ≡ Stopped m)

-- ---- what a round that ends so comes to, where its end is told to this world
pub record Progresses {S : Type 0} (old : WorldState S) (node : ℕ) (members : List ℕ) (end : RoundEnd) (new : WorldState S) : Type 0 where
  -- what is told is so
  pub decided : (slot : ℕ) → end ≡ Decided slot → NodeHasLearnt new node slot
  pub too_low : (greatest : Ballot) → end ≡ TooLow greatest → IsAbove new node greatest
  pub stopped : (m : ℕ) → end ≡ Stopped m → HasStopped new members m
  -- where nothing disturbs it and no member has promised more, it decides at the node's position; or a member stops
  pub decides : (slot : ℕ) (ballot : Ballot) → IsUndisturbed old node members slot ballot → NoneAbove old members ballot
      → (end ≡ Decided slot) ⊎ RoundIsStopped end
  -- where a member has promised more, it tells the greatest promise of any; or a member stops
  pub tells : (slot : ℕ) (ballot greatest : Ballot) → IsUndisturbed old node members slot ballot
      → IsGreatestAbove old members ballot greatest → (end ≡ TooLow greatest) ⊎ RoundIsStopped end

-- the round has made progress, up to the world to which its end is told
pub record MakesProgress {S : Type 0} (old : WorldState S) (node : ℕ) (members : List ℕ) (end : RoundEnd)
    (new : WorldState S) : Type 0 where
  pub reached : WorldState S
  pub leaves : new ≡ with_outcome reached (outcome.Round node end)
  pub progresses : Progresses old node members end reached

-- what is promised of a round that ends so, where every storage inside is honest
abbrev pub PromisesProgress : {S : Type 0} → (S → Type 0) → WorldState S → ℕ → List ℕ → RoundEnd → WorldState S → Type 0
PromisesProgress IsHonest old node members end new = AreHonestInside IsHonest old.nodes → ∥ MakesProgress old node members end new ∥₁

-- ---- later on
-- the event restarts the node
abbrev pub RestartsNode : ℕ → Event → Type 0
RestartsNode node (event.Restart i) = i ≡ node
RestartsNode node other = ⊥

-- no step but its restart makes the next ballot of a node lower
abbrev pub BallotsNeverFall : {S : Type 0} → Ghosts (Script S) → Type 0
BallotsNeverFall {S} storages = (old : WorldState S) (e : Event) (new : WorldState S) (node : ℕ) → Steps storages old e new
    → (RestartsNode node e → ⊥) → (before after : ReplicaState) → replica_at old node ≡ Some before → replica_at new node ≡ Some after
    → (b c : Ballot) → IsNextBallot before b → IsNextBallot after c → rank b ≤ rank c

-- one step after the other leads from one world to another
abbrev pub StepsAll : {S : Type 0} → Ghosts (Script S) → WorldState S → List Event → WorldState S → Type 0
StepsAll storages old [] new = new ≡ old
StepsAll {S} storages old (e ∷ more) new = (between : WorldState S) × Steps storages old e between × StepsAll storages between more new

-- over honest storages no steps make the promise of a node lower, whether it was down in between and restarted or not
abbrev pub PromisesNeverFall : {S : Type 0} → Ghosts (Script S) → Type 0
PromisesNeverFall {S} storages = (old : WorldState S) (events : List Event) (new : WorldState S) (node : ℕ)
    → IsAllowed storages.contents old.nodes old.frames old.learnt old.submitted → AreHonest storages.IsHonest new.nodes
    → StepsAll storages old events new
    → (before after : ReplicaState) → replica_at old node ≡ Some before → replica_at new node ≡ Some after
    → rank_of (promised before) ≤ rank_of (promised after)

-- a restart of a node whose next reading is armed to fail ends with that failure and the node down, and in no other way
abbrev pub ArmedReadsFire : {S : Type 0} → Ghosts (Script S) → Type 0
ArmedReadsFire {S} storages = (old : WorldState S) (node : ℕ) (new : WorldState S) (before : NodeState (Script S))
    → Steps storages old (event.Restart node) new
    → slice_get old.nodes node ≡ Some before → before.storage.armed ≡ Some Read
    → (after : NodeState (Script S)) × (after.up ≡ None)
    × (new ≡ with_outcome (with_node old node after) (outcome.Stopped node fault.Device))
