use Rattle.std.proofs.Common.{take}
use Rattle.diagram.specs.Drawn.{Draws, IsFrame}
use Rattle.diagram.specs.Pictures.{AreThere}
use Rattle.diagram.proofs.arrow_lines.draw_all.Given as goal

-- the frames of the arrows so far are drawn
abbrev pub invariant-loop-arrow : goal.invariant-loop-arrow
invariant-loop-arrow l = record {
  drawn : AreThere l.scene.frames.now l.arrows
      → Draws (IsFrame l.scene l.layout.ends.items) l.initial.picture (take l.arrow-index l.arrows) l.picture;
}
