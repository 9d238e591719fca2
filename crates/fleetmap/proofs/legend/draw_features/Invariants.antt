use Rattle.picture.specs.Growing.{Grows}
use Rattle.fleetmap.proofs.legend.draw_features.Given as goal

-- more and more is drawn
abbrev pub invariant-loop-at : goal.invariant-loop-at
invariant-loop-at l = Grows l.initial.picture l.picture
