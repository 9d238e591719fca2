use Rattle.std.proofs.Common.{rules}
use Rattle.mfjson.proofs.reader.coordinate_of.Goals as goal

pub returns-then-is_coordinate : goal.returns-then-is_coordinate
returns-then-is_coordinate c = search rules

pub returns-else-is_coordinate : goal.returns-else-is_coordinate
returns-else-is_coordinate c = search rules
