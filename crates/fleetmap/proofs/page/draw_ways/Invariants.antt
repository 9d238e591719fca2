use Rattle.picture.specs.Growing.{Grows}
use Rattle.fleetmap.proofs.page.draw_ways.Given as goal

-- more and more is drawn
abbrev pub invariant-loop-at : goal.invariant-loop-at
invariant-loop-at l = Grows l.initial.picture l.picture
