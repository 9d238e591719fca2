use Rattle.picture.specs.Growing.{Grows}
use Rattle.fleetmap.proofs.areas.draw_areas.Given as goal

-- more and more is drawn
abbrev pub invariant-loop-k : goal.invariant-loop-k
invariant-loop-k l = Grows l.initial.picture l.picture
