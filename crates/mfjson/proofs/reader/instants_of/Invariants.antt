use Rattle.std.proofs.Common.{map, take}
use Rattle.serde_json.specs.View.{view}
use Rattle.mfjson.specs.Pairs.{Pairwise}
use Rattle.mfjson.specs.Document.{SaysInstant}
use Rattle.mfjson.proofs.reader.instants_of.Given as goal

-- what was read so far
abbrev pub invariant-loop-i : goal.invariant-loop-i
invariant-loop-i l = Pairwise SaysInstant (map view (take l.i l.datetimes)) l.instants.items
