use Rattle.std.proofs.Common.{take}
use Rattle.diagram.specs.Shown.{IsStepOf, Sets, mark_step}
use Rattle.diagram.proofs.layout.show_marks.Given as goal

-- the marks so far have their flags
abbrev pub invariant-loop-mark : goal.invariant-loop-mark
invariant-loop-mark l = Sets (IsStepOf mark_step (take l.mark-index l.scene.marks.now) l.first l.last) l.initial.shown.items l.shown.items
