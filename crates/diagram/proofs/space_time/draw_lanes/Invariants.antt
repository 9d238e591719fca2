use Rattle.std.specs.List.{range_with_len}
use Rattle.diagram.specs.Drawn.{Draws, IsLane}
use Rattle.diagram.proofs.space_time.draw_lanes.Given as goal

-- the nodes so far have their lanes
abbrev pub invariant-loop-node : goal.invariant-loop-node
invariant-loop-node l = Draws (IsLane l.nodes l.height) l.initial.picture (range_with_len 0 l.node) l.picture
