-- A node is the meaning of what it has learnt.
use Rattle.std.specs.Prelude.{◌≡◌, ◌⊎◌, ◌≤◌, ℕ, suc, ◌-◌, List, ◌++◌, length, take, slice_get, Some, Contains}
use Rattle.synod.specs.declared.slot.TheConstants.{SLOTS}
use Rattle.sessions.specs.declared.submission.Submission.{Submission}
use Rattle.sessions.specs.Machines.{MachineState}
use Rattle.sessions.specs.Meaning.{RepliesAt}
use Rattle.sessions.specs.SessionReplies.{outcome_code}
use Rattle.sessions.specs.Standing.{StandsFor}
use Rattle.sessions.specs.declared.command.Command.{Command}
use Rattle.sessions.specs.declared.command.Command.TheVariants.{Request}
use Rattle.node_model.specs.Executing.{commands}
use Rattle.node_model.specs.Replicas.{ReplicaState, position}
use Rattle.node_model.specs.Outputs.{Response}
use Rattle.node_model.specs.declared.outputs.ReplyOut.{ReplyOut}

-- for each list of commands that the one machine stands for, the other stands for it and these
pub record StandsForMore (old new : MachineState) (cs : List Command) : Type 0 where
  pub stands : (l : List Command) → StandsFor old l → StandsFor new (l ++ cs)

-- the reply is that of the list's first commands, up to its position, at the last of them
pub record IsReplyOf (l : List Command) (e : ReplyOut) : Type 0 where
  pub request : Submission
  pub client_ : request.client ≡ e.client
  pub number_ : request.number ≡ e.number
  pub place : ℕ
  pub position_ : e.position ≡ suc place
  pub there : slice_get l place ≡ Some (Request request)
  pub reply_ : RepliesAt (take (suc place) l) place request (outcome_code e.reply)

-- for each list of so many commands that the machine stands for, each reply is that of it and these
pub record RepliesToMore (m : MachineState) (slot : ℕ) (cs : List Command) (replies : List ReplyOut) : Type 0 where
  pub replies_ : (l : List Command) → StandsFor m l → length l ≡ slot → (e : ReplyOut) → Contains replies e
      → IsReplyOf (l ++ cs) e

-- for each such list, each reply that has joined is that of it and these
pub record AddsReplies (m : MachineState) (slot : ℕ) (cs : List Command) (old new : List ReplyOut) : Type 0 where
  pub replies_ : (l : List Command) → StandsFor m l → length l ≡ slot → (e : ReplyOut) → Contains new e
      → Contains old e ⊎ IsReplyOf (l ++ cs) e

-- ---- a node
-- the commands of which it is the meaning: those with which it began, and those that it has learnt from its first slot on
abbrev pub executed_from : List Command → ReplicaState → List Command
executed_from base m = base ++ commands m.learner.learnt m.learner.first (position m - m.learner.first)

-- the node is their meaning; they are as many as its position, as the law `meanings_are_as_long_as_positions` says
pub record IsMeaningOf (base : List Command) (m : ReplicaState) : Type 0 where
  pub begun : length base ≡ m.learner.first
  pub in_log : m.learner.first ≤ SLOTS
  pub stands : StandsFor m.machine (executed_from base m)

-- a node that is the meaning of a list and of what it has learnt is so after an input that it took, its position hasn't fallen,
-- and its replies are those of the list
pub record GoesOnFrom (base : List Command) (old new : ReplicaState) (said : Response) : Type 0 where
  pub meaning : IsMeaningOf base new
  pub position_ : position old ≤ position new
  -- the list goes on: nothing that was learnt changes
  pub more : (cs : List Command) × (executed_from base new ≡ executed_from base old ++ cs)
  pub replies_ : (e : ReplyOut) → Contains said.replies e → IsReplyOf (executed_from base new) e

-- a node that has restored the text of such a list is its meaning and that of what it has learnt from there on, its position hasn't
-- fallen, and its replies are those of the list
pub record RestoresFrom (base : List Command) (old new : ReplicaState) (said : Response) : Type 0 where
  pub meaning : IsMeaningOf base new
  pub position_ : position old ≤ position new
  pub replies_ : (e : ReplyOut) → Contains said.replies e → IsReplyOf (executed_from base new) e
