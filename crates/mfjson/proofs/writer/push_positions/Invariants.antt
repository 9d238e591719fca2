use Rattle.std.proofs.Common.{take}
use Rattle.mfjson.specs.Document.{WritesWhere}
use Rattle.mfjson.specs.Texts.{Continues}
use Rattle.mfjson.proofs.writer.push_positions.Given as goal

abbrev pub invariant-loop-point : goal.invariant-loop-point
invariant-loop-point l = Continues WritesWhere (take l.point-index l.points) l.initial.text.items l.text.items
