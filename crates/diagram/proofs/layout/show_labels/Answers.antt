use Rattle.std.proofs.Common.{arith}
use Rattle.diagram.specs.Shown.{label_step}
use Rattle.diagram.proofs.FlagLemmas.{one_more_step}
use Rattle.diagram.proofs.layout.show_labels.Goals as goal

pub loop-label-preserved : goal.loop-label-preserved
loop-label-preserved c = record {
  shown =
      one_more_step label_step c.args.first c.args.last c.args.scene.now.labels.now c.loop-label.label-index c.label-item.result _ _ _
      (omega arith) c.label-item.is c.loop-label.invariant.shown c.show_between-is_shown.ensures;
  texts = omega arith;
}
