use Rattle.std.proofs.Common.{rules}
use Rattle.sqlstable.proofs.key_bytes.spelling.Goals as goal

pub returns-in-Vote-clause-spelled : goal.returns-in-Vote-clause-spelled
returns-in-Vote-clause-spelled c = search rules
