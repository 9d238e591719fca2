use Rattle.std.proofs.Common.{rules}
use Rattle.wire.proofs.sizes.limits.Goals as goal

pub returns-clause-entries : goal.returns-clause-entries
returns-clause-entries c = search rules
