use Rattle.std.proofs.Common.{take}
use Rattle.diagram.specs.Drawn.{IsMark}
use Rattle.diagram.specs.Shown.{DrawsStanding, mark_step}
use Rattle.diagram.specs.Signs.{AreCounted}
use Rattle.diagram.proofs.signs.draw_marks.Given as goal

-- the marks so far are drawn, if they stand somewhere, and those of the last step are counted
abbrev pub invariant-loop-mark : goal.invariant-loop-mark
invariant-loop-mark l = record {
  drawn : DrawsStanding mark_step (IsMark l.scene.nodes l.scene.marks.now l.layout.ends.items) l.layout.ends.items
      (take l.mark-index l.scene.marks.now) l.initial.picture l.picture;
  counted : AreCounted (take l.mark-index l.scene.marks.now) l.step l.lanes;
}
