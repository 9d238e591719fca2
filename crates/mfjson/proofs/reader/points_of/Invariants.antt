use Rattle.std.proofs.Common.{take}
use Rattle.mfjson.specs.Outline.{AreTogether}
use Rattle.mfjson.proofs.reader.points_of.Given as goal

-- what was put together so far
abbrev pub invariant-loop-i : goal.invariant-loop-i
invariant-loop-i l = AreTogether l.points.items (take l.i l.instants) (take l.i l.places)
