use Rattle.std.proofs.Common.{rules}
use Rattle.wire.proofs.node_set.NodeSet.is_majority_of.Goals as goal

pub loop-node-preserved : goal.loop-node-preserved
loop-node-preserved c = search rules
