use Rattle.std.proofs.Common.{◌≡◌, length}
use Rattle.fleetmap.specs.Fleets.{EachIsShown}
use Rattle.fleetmap.proofs.shown.show_fleet.Given as goal

-- so many features are shown
abbrev pub invariant-loop-at : goal.invariant-loop-at
invariant-loop-at l = (length l.shown.items ≡ l.at) × EachIsShown l.chart l.t l.db l.shown.items
