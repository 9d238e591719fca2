use Rattle.std.proofs.Common.{take}
use Rattle.story.specs.Lines.{texts_in}
use Rattle.story.specs.Sketches.{AreLabels}
use Rattle.story.proofs.sketch.label_lines.Given as goal

-- the lines so far have their labels
abbrev pub invariant-loop-begin : goal.invariant-loop-begin
invariant-loop-begin l = AreLabels (texts_in l.bytes) (take l.begin-index l.ledger.lines.items) l.labels.items
