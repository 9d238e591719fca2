use Rattle.picture.specs.Growing.{Grows}
use Rattle.fleetmap.proofs.label.Rooms.draw_beside.Given as goal

-- nothing is drawn before a room is found
abbrev pub invariant-loop-number : goal.invariant-loop-number
invariant-loop-number l = Grows l.initial.picture l.picture
