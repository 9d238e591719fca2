use Rattle.std.proofs.Common.{arith}
use Rattle.diagram.specs.Drawn.{none}
use Rattle.diagram.proofs.DrawnLemmas.{one_more_drawn}
use Rattle.diagram.proofs.arrow_lines.draw_all.Goals as goal

pub loop-arrow-init : goal.loop-arrow-init
loop-arrow-init c = record { drawn = λ all. none }

pub loop-arrow-preserved : goal.loop-arrow-preserved
loop-arrow-preserved c = record {
  drawn = one_more_drawn c.args.scene.now c.args.layout.now.ends.items c.args.arrows.now c.loop-arrow.arrow-index c.arrow-item.result _
      c.loop-arrow.picture _ c.loop-arrow.invariant.drawn c.in_ok-draw_next.ensures (omega arith) c.arrow-item.is;
}
