use Rattle.std.proofs.Common.{rules}
use Rattle.node_model.proofs.fault.NodeFault.code.Goals as goal

pub returns-in-QueueFull : goal.returns-in-QueueFull
returns-in-QueueFull c = search rules
