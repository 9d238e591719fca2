use Rattle.std.proofs.Common.{rules}
use Rattle.node_model.proofs.fault.NodeFault.is_stop.Goals as goal

pub returns-in_default : goal.returns-in_default
returns-in_default c = search rules
