use Rattle.std.proofs.Common.{rules}
use Rattle.sessions.proofs.number.Number.new.Goals as goal

pub returns-else-value-ge1-clause-valid : goal.returns-else-value-ge1-clause-valid
returns-else-value-ge1-clause-valid c = search rules
