use Rattle.std.proofs.Common.{rules}
use Rattle.store.proofs.laws.limits.Goals as goal

pub returns : goal.returns
returns c = search rules
