use Rattle.std.proofs.Common.{rules}
use Rattle.sqlstable.proofs.schema.is_column.Goals as goal

pub returns-in-Binary : goal.returns-in-Binary
returns-in-Binary c = search rules
