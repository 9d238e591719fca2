use Rattle.diagram.specs.Arrows.{AreArrows}
use Rattle.diagram.proofs.arrows.list_arrows.Given as goal

-- the frames so far have their arrows
abbrev pub invariant-loop-number : goal.invariant-loop-number
invariant-loop-number l = AreArrows l.frames l.waiting l.passages l.first l.number l.arrows.items
