use Rattle.std.proofs.Common.{◌≡◌, ◌≤◌}
use Rattle.synod.specs.Majorities.{counted}
use Rattle.wire.specs.NodeSets.{has_node}
use Rattle.wire.proofs.node_set.NodeSet.is_majority_of.Given as goal

abbrev pub invariant-loop-node : goal.invariant-loop-node
invariant-loop-node l = record {
  so_far : l.count ≡ counted (has_node l.self-inside.members) l.node;
  fits : l.count ≤ l.node;
}
