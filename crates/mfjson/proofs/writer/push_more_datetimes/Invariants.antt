use Rattle.std.proofs.Common.{take}
use Rattle.mfjson.specs.Document.{WritesWhen}
use Rattle.mfjson.specs.Texts.{Continues}
use Rattle.mfjson.proofs.writer.push_more_datetimes.Given as goal

abbrev pub invariant-loop-point : goal.invariant-loop-point
invariant-loop-point l = Continues WritesWhen (take l.point-index l.points) l.initial.text.items l.text.items
