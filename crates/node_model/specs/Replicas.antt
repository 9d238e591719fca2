-- What a node holds while it is up, and which inputs it refuses.
use Rattle.std.specs.Prelude.{◌≡◌, ℕ, ◌<◌, ◌≤◌, ◌^◌, nat_le, nat_lt, length, not, Bool, true, false, Option, Some, None, IfSome}
use Rattle.std.specs.Prelude.{if◌then◌else◌}
use Rattle.std.specs.List.{list_any}
use Rattle.synod.specs.declared.ballot.Ballot.{Ballot}
use Rattle.synod.specs.declared.ballot.TheConstants.{MOST_NODES}
use Rattle.synod.specs.declared.slot.TheConstants.{SLOTS}
use Rattle.store.specs.declared.op.Op.{Op}
use Rattle.sessions.specs.declared.submission.Submission.{Submission}
use Rattle.sessions.specs.Machines.{MachineState}
use Rattle.sessions.specs.declared.command.Command.{Command}
use Rattle.acceptor.specs.Accepting.{Accepting}
use Rattle.learner.specs.Learning.{Learning, prefix}
use Rattle.proposer.specs.Proposing.{Proposing, next_round}
use Rattle.proposer.specs.Requests.{is_of}
use Rattle.proposer.specs.declared.queue.TheConstants.{MOST_WAITING}
use Rattle.proposer.specs.declared.window.TheConstants.{MOST_OPEN}
use Rattle.wire.specs.Framing.{voted_slot}
use Rattle.wire.specs.declared.frames.message.Message.{Message}
use Rattle.node_model.specs.Fetching.{Fetching}
use Rattle.node_model.specs.Inputs.{is_short, is_for_this_run}
use Rattle.node_model.specs.declared.fault.NodeFault.{NodeFault}
use Rattle.node_model.specs.declared.fault.NodeFault.TheVariants as fault
use Rattle.node_model.specs.declared.input.Input.{Input}
use Rattle.node_model.specs.declared.input.Input.TheVariants as input

-- its number, that of all nodes, what its roles hold, and what it fetches; its machine has executed the commands below the position
pub record ReplicaState : Type 0 where
  pub id : ℕ
  pub nodes : ℕ
  pub acceptor : Accepting
  pub learner : Learning
  pub proposer : Proposing
  pub machine : MachineState
  pub fetching : Option Fetching

-- the first slot that isn't learnt, of those that are kept
abbrev pub position : ReplicaState → ℕ
position m = prefix m.learner

-- what the node has learnt at a slot
abbrev pub learnt_in : ReplicaState → ℕ → Option Command
learnt_in m slot = m.learner.learnt slot

-- what it has promised
abbrev pub promised : ReplicaState → Option Ballot
promised m = m.acceptor.promise

-- the ballot under which its next campaign is to begin
pub record IsNextBallot (m : ReplicaState) (ballot : Ballot) : Type 0 where
  pub round : ballot.round ≡ next_round m.proposer
  pub own : ballot.node ≡ m.id

-- the whole log is executed
abbrev pub is_full : ReplicaState → Bool
is_full m = nat_le SLOTS (position m)

-- what a client asks for
abbrev pub submission_of : ℕ → ℕ → Op → Submission
submission_of client number op = record { client = client; number = number; op = op }

-- the request of this client and number waits
abbrev pub waits : ReplicaState → ℕ → ℕ → Bool
waits m client number = list_any (is_of client number) m.proposer.waiting

-- it is one of seven nodes at most, few requests wait, and few proposals are open
pub record ReplicaIsSmall (m : ReplicaState) : Type 0 where
  pub number : m.id < MOST_NODES
  pub of_all : m.nodes ≤ MOST_NODES
  pub waiting : length m.proposer.waiting ≤ MOST_WAITING
  pub proposals : IfSome m.proposer.campaign (λ k. length k.proposals ≤ MOST_OPEN)

-- ---- of which votes nothing comes
-- there is such a slot, and it is below the position
abbrev pub is_slot_below : Option ℕ → ℕ → Bool
is_slot_below None position = false
is_slot_below (Some slot) position = nat_lt slot position

-- the message tells of a vote for a slot below the position
abbrev pub is_stale_vote : ReplicaState → Message → Bool
is_stale_vote m message = is_slot_below (voted_slot message) (position m)

-- ---- which inputs are refused, and leave the node as it was
abbrev pub refuses_submit : ReplicaState → Submission → Option NodeFault
refuses_submit m r =
    if is_full m then Some fault.LogFull
    else if not (is_short r.op) then Some fault.TooLong
    else if waits m r.client r.number then None
    else if nat_le MOST_WAITING (length m.proposer.waiting) then Some fault.QueueFull
    else None

abbrev pub refuses_timeout : ReplicaState → Option NodeFault
refuses_timeout m =
    if is_full m then Some fault.LogFull
    else if nat_le (2 ^ 64) (next_round m.proposer) then Some fault.RoundsUsedUp
    else None

-- a checkpoint of no further position than the last
abbrev pub refuses_checkpoint : ReplicaState → Option NodeFault
refuses_checkpoint m = if nat_le (position m) m.acceptor.floor then Some fault.NothingNew else None

abbrev pub refuses : ReplicaState → Input → Option NodeFault
refuses m (input.Submit client number op) = refuses_submit m (submission_of client number op)
refuses m input.Timeout = refuses_timeout m
refuses m input.Checkpoint = refuses_checkpoint m
refuses m other = None

-- ---- of which inputs nothing comes, and nothing is written: a request that waits already, and an envelope that doesn't concern
-- the node
abbrev pub Ignores : ReplicaState → Input → Type 0
Ignores m (input.Submit client number op) = (refuses_submit m (submission_of client number op) ≡ None) × (waits m client number ≡ true)
Ignores m (input.Message e) = is_for_this_run m.id m.nodes e ≡ false
Ignores m other = ⊥
