use Rattle.std.proofs.Common.{map, take}
use Rattle.serde_json.specs.View.{view}
use Rattle.mfjson.specs.Pairs.{Pairwise}
use Rattle.mfjson.specs.Faults.{SaysCoordinates}
use Rattle.mfjson.proofs.reader.places_of.Given as goal

-- what was read so far
abbrev pub invariant-loop-i : goal.invariant-loop-i
invariant-loop-i l = Pairwise SaysCoordinates (map view (take l.i l.coordinates)) l.places.items
