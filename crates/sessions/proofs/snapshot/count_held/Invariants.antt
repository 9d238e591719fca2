use Rattle.std.proofs.Common.{◌≡◌, ◌+◌, ◌≤◌, length}
use Rattle.sessions.specs.Snapshots.{held, held_from}
use Rattle.sessions.proofs.snapshot.count_held.Given as goal

abbrev pub invariant-loop-rest : goal.invariant-loop-rest
invariant-loop-rest l =
    (l.count + length (held_from l.client l.rest) ≡ length (held l.fn.places))
    × ((l.client + length l.rest ≡ length l.fn.places) × (l.count ≤ l.client))

abbrev pub decreases-loop-rest : goal.decreases-loop-rest
decreases-loop-rest l = length l.rest
