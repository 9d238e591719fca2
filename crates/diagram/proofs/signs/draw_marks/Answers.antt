use Rattle.std.proofs.Common.{◌+◌, ◌<◌, length, take, arith}
use Rattle.diagram.specs.Drawn.{IsMark}
use Rattle.diagram.specs.Shown.{mark_step}
use Rattle.diagram.specs.Signs.{marks_at}
use Rattle.diagram.proofs.ListLemmas.{take_so_far}
use Rattle.diagram.proofs.ShownLemmas.{none_standing, one_more_standing}
use Rattle.diagram.proofs.SignLemmas.{fewer, mark_so, none_counted, one_counted}
use Rattle.diagram.proofs.signs.draw_marks.Goals as goal

pub loop-mark-init : goal.loop-mark-init
loop-mark-init c =
    let s = c.args.scene.now in
    let ends = c.args.layout.now.ends.items in record {
      drawn = none_standing mark_step (IsMark s.nodes s.marks.now ends) ends c.args.picture.now;
      counted = none_counted 7 0;
    }

pub loop-mark-preserved : goal.loop-mark-preserved
loop-mark-preserved c =
    let s = c.args.scene.now in
    let marks = s.marks.now in
    let ends = c.args.layout.now.ends.items in
    let i = c.loop-mark.mark-index in
    let m = c.mark-item.result in
    let others = c.count_sign-others.result in
    let below : i < length marks = omega arith in
    let begun = c.begin_step.ensures (take i marks) c.loop-mark.invariant.counted in
    let few : others < marks_at marks m.node m.step =
    omega (arith, fewer marks i m c.begin_step.new.lanes below c.mark-item.is begun, c.count_sign-others.ensures.others) in record {
      drawn = one_more_standing mark_step (IsMark s.nodes marks ends) ends marks i m _ c.loop-mark.picture _ below c.mark-item.is
          c.loop-mark.invariant.drawn
          (λ h. mark_so s.nodes marks ends m others c.loop-mark.picture _ few (c.in_ok-draw_next.ensures.stands h))
          c.in_ok-draw_next.ensures.left_out;
      counted = one_counted (take i marks) m c.begin_step.new.lanes begun (take (i + 1) marks) c.count_sign-others.new.lanes others
          (take_so_far marks i m below c.mark-item.is) c.count_sign-others.ensures.others c.count_sign-others.ensures.counted;
    }
