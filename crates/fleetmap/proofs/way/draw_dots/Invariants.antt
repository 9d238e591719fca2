use Rattle.picture.specs.Growing.{Grows}
use Rattle.fleetmap.proofs.way.draw_dots.Given as goal

-- more and more is drawn
abbrev pub invariant-loop-place : goal.invariant-loop-place
invariant-loop-place l = Grows l.initial.picture l.picture
