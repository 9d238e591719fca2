-- What a node is.
use Rattle.std.specs.Prelude.{ℕ, Option}
use Rattle.node_model.specs.Replicas.{ReplicaState}

-- a node: its number, that of all nodes, its storage, and where it is up what it holds
pub record NodeState (S : Type 0) : Type 0 where
  pub id : ℕ
  pub nodes : ℕ
  pub storage : S
  pub up : Option ReplicaState
