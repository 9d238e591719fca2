use Rattle.std.proofs.Common.{take}
use Rattle.diagram.specs.Drawn.{IsLine}
use Rattle.diagram.specs.Shown.{DrawsStanding, label_step}
use Rattle.diagram.proofs.space_time.draw_labels.Given as goal

-- the lines so far are drawn, if they stand somewhere
abbrev pub invariant-loop-label : goal.invariant-loop-label
invariant-loop-label l =
    DrawsStanding label_step (IsLine l.layout.ends.items) l.layout.ends.items (take l.label-index l.scene.labels.now) l.initial.picture
    l.picture
