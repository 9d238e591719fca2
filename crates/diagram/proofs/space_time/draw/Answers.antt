use Rattle.std.proofs.Common.{arith}
use Rattle.diagram.proofs.DrawnLemmas.{shows}
use Rattle.diagram.specs.declared.space_time.TheConstants.{STYLE}
use Rattle.diagram.proofs.space_time.draw.Goals as goal

pub returns : goal.returns
returns c =
    shows c.args.scene.now c.args.from c.args.to c.in_ok-window.window _ _ c.in_ok-layout.layout.height STYLE.now _ _ _ _ _ _ c.in_ok-layout.layout.ends.items
    c.finish.result (λ t. t.items) c.in_ok-window.ensures c.in_ok-layout.ensures (omega arith) c.in_ok-picture.ensures c.in_ok-draw_head.ensures
    c.in_ok-draw_lanes.ensures c.in_ok-draw_labels.ensures c.in_ok-draw_arrows.ensures c.in_ok-draw_marks.ensures c.finish.ensures
