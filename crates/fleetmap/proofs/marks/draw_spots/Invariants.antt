use Rattle.std.proofs.Common.{ℕ, ◌<◌}
use Rattle.picture.specs.Growing.{Grows}
use Rattle.fleetmap.specs.Pages.{IsMarkedAt}
use Rattle.fleetmap.proofs.marks.draw_spots.Given as goal

-- the features so far are marked
abbrev pub invariant-loop-at : goal.invariant-loop-at
invariant-loop-at l = record {
  grows : Grows l.initial.picture l.picture;
  marked : (k : ℕ) → k < l.at → IsMarkedAt l.db l.shown k l.picture;
}
