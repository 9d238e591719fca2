use Rattle.std.proofs.Common.{rules}
use Rattle.tpoint.proofs.point.Point.is_in_range.Goals as goal

pub returns-then-is_coordinate : goal.returns-then-is_coordinate
returns-then-is_coordinate c = search rules
