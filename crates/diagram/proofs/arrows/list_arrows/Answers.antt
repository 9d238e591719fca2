use Rattle.std.proofs.Common.{arith}
use Rattle.diagram.proofs.ArrowLists.{one_more}
use Rattle.diagram.proofs.arrows.list_arrows.Goals as goal

pub loop-number-preserved : goal.loop-number-preserved
loop-number-preserved c =
    one_more c.args.frames.now c.args.waiting.now c.args.passages.now c.args.first c.loop-number.number c.loop-number.arrows.items
    c.push.new.self.items c.arrow_of-arrow.result c.index-frames-number.result _ _ c.loop-number.invariant c.in_ok-push.ensures.items
    (omega arith) (omega arith) (omega arith) c.index-frames-number.is c.arrow_of-arrow.ensures
