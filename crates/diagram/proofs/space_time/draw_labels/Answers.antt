use Rattle.std.proofs.Common.{arith}
use Rattle.diagram.specs.Drawn.{IsLine}
use Rattle.diagram.specs.Shown.{label_step}
use Rattle.diagram.proofs.ShownLemmas.{none_standing, one_more_standing}
use Rattle.diagram.proofs.space_time.draw_labels.Goals as goal

pub loop-label-init : goal.loop-label-init
loop-label-init c =
    none_standing label_step (IsLine c.args.layout.now.ends.items) c.args.layout.now.ends.items c.args.picture.now

pub loop-label-preserved : goal.loop-label-preserved
loop-label-preserved c =
    one_more_standing label_step (IsLine c.args.layout.now.ends.items) c.args.layout.now.ends.items c.args.scene.now.labels.now
    c.loop-label.label-index c.label-item.result _ c.loop-label.picture _ (omega arith) c.label-item.is c.loop-label.invariant
    c.in_ok-draw_label.ensures.stands c.in_ok-draw_label.ensures.left_out
