use Rattle.diagram.specs.Drawn.{none}
use Rattle.diagram.proofs.DrawnLemmas.{one_more_lane}
use Rattle.diagram.proofs.space_time.draw_lanes.Goals as goal

pub loop-node-init : goal.loop-node-init
loop-node-init c = none

pub loop-node-preserved : goal.loop-node-preserved
loop-node-preserved c =
    one_more_lane c.args.nodes c.args.height c.loop-node.node c.args.picture.now c.loop-node.picture _ c.loop-node.invariant c.in_ok-draw_lane.ensures
