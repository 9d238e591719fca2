-- What a node is seen as: its number, its storage, and what its roles hold.
use Rattle.std.specs.Prelude.{option_map}
use Rattle.node_model.specs.States.{NodeState}
use Rattle.node.specs.declared.node.Node.{Node}
use Rattle.node.specs.Replica.{replica_of}

abbrev pub state_of : {S : Type 0} → Node S → NodeState S
state_of n = record {
  id = n.id;
  nodes = n.nodes;
  storage = n.storage;
  up = option_map replica_of n.replica;
}
