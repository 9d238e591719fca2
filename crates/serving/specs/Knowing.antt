-- What a process knows of its node, and when it was so.
use Rattle.std.specs.Prelude.{◌≡◌, ℕ, List, ◌++◌, MatchOption, Some}
use Rattle.sessions.specs.Machines.{last_number}
use Rattle.sessions.specs.Sessions.{session_of}
use Rattle.sessions.specs.declared.submission.Submission.{Submission}
use Rattle.stable.specs.declared.stable.Stable.{Ghosts}
use Rattle.node_model.specs.Nodes.{NodeState}
use Rattle.node_model.specs.Replicas.{ReplicaState, position, refuses}
use Rattle.node_model.specs.declared.fault.NodeFault.{NodeFault}
use Rattle.node_model.specs.declared.input.Input.TheVariants as input
use Rattle.world_model.specs.Lives.{Happening, IsLife}

-- ---- what a node tells of itself
-- its position: 0 while it is down
abbrev pub IsPosition : {S : Type 0} → NodeState S → ℕ → Type 0
IsPosition n number = MatchOption n.up (number ≡ 0) (λ m. number ≡ position m)

-- the number of the client's last request that a node has executed and that counted: 0 where none has, and while it is down
abbrev pub IsLastNumber : {S : Type 0} → NodeState S → ℕ → ℕ → Type 0
IsLastNumber n client number =
    MatchOption n.up (number ≡ 0) (λ m. number ≡ last_number (session_of m.machine.sessions client))

-- it is up, and refuses the request with this fault
pub record Refuses {S : Type 0} (n : NodeState S) (submission : Submission) (fault : NodeFault) : Type 0 where
  pub replica : ReplicaState
  pub up : n.up ≡ Some replica
  pub refused : refuses replica (input.Submit submission.client submission.number submission.op) ≡ Some fault

-- ---- when it was so
-- the first of what happened led the node of this life there
pub record WasSo {S : Type 0} (storages : Ghosts S) (first : NodeState S) (history : List Happening) (n : NodeState S) : Type 0 where
  pub before : List Happening
  pub after : List Happening
  pub parts : history ≡ before ++ after
  pub leads : IsLife storages first before n
