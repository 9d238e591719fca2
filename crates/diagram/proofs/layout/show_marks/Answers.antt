use Rattle.std.proofs.Common.{arith}
use Rattle.diagram.specs.Shown.{mark_step}
use Rattle.diagram.proofs.FlagLemmas.{no_steps, one_more_step}
use Rattle.diagram.proofs.layout.show_marks.Goals as goal

pub loop-mark-init : goal.loop-mark-init
loop-mark-init c = no_steps mark_step c.args.first c.args.last c.args.shown.now.items

pub loop-mark-preserved : goal.loop-mark-preserved
loop-mark-preserved c =
    one_more_step mark_step c.args.first c.args.last c.args.scene.now.marks.now c.loop-mark.mark-index c.mark-item.result _ _ _
    (omega arith) c.mark-item.is c.loop-mark.invariant c.show_between.ensures
