use Rattle.std.proofs.Common.{arith}
use Rattle.std.proofs.lemmas.Grind.{common_steps}
use Rattle.fields.proofs.writer.push_sequence.Goals as goal

pub returns-clause-spelled : goal.returns-clause-spelled
returns-clause-spelled c = grind (arith, common_steps)
