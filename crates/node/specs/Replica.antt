-- What a node that is up holds, by its roles.
use Rattle.acceptor.specs.State.{accepting_of}
use Rattle.learner.specs.State.{learning_of}
use Rattle.node.specs.declared.replica.Replica.{Replica}
use Rattle.std.specs.Prelude.{option_map}
use Rattle.node_model.specs.Replicas.{ReplicaState}
use Rattle.node.specs.Fetching.{fetching_of}

abbrev pub replica_of : Replica → ReplicaState
replica_of r = record {
  id = r.id;
  nodes = r.nodes;
  acceptor = accepting_of r.acceptor;
  learner = learning_of r.learner;
  proposer = r.proposer;
  machine = r.machine;
  fetching = option_map fetching_of r.fetching;
}
