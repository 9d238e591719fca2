use Rattle.picture.specs.Growing.{Grows}
use Rattle.fleetmap.proofs.legend.draw_answers.Given as goal

-- more and more is drawn
abbrev pub invariant-loop-k : goal.invariant-loop-k
invariant-loop-k l = Grows l.initial.picture l.picture
