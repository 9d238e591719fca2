use Rattle.std.proofs.Common.{rules}
use Rattle.node_model.proofs.outputs.Outputs.of_frames.Goals as goal

pub returns : goal.returns
returns c = search rules
