use Rattle.std.proofs.Common.{rules}
use Rattle.tpoint.proofs.sizes.limits.Goals as goal

pub returns-clause-coordinate : goal.returns-clause-coordinate
returns-clause-coordinate c = search rules
