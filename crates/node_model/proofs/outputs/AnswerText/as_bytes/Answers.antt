use Rattle.std.proofs.Common.{rules}
use Rattle.node_model.proofs.outputs.AnswerText.as_bytes.Goals as goal

pub returns : goal.returns
returns c = search rules
