use Rattle.std.proofs.Common.{rules}
use Rattle.restrict.proofs.period_cut.is_shared.Goals as goal

pub returns-else-from_begin : goal.returns-else-from_begin
returns-else-from_begin c = search rules
