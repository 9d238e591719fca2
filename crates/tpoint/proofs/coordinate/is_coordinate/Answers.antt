use Rattle.std.proofs.Common.{rules}
use Rattle.tpoint.proofs.coordinate.is_coordinate.Goals as goal

pub returns-then-z : goal.returns-then-z
returns-then-z c = search rules
