use Rattle.std.proofs.Common.{rules}
use Rattle.fields.proofs.writer.push_u64.Goals as goal

pub returns-clause-spelled : goal.returns-clause-spelled
returns-clause-spelled c = search rules
