use Rattle.std.proofs.Common.{◌≡◌, ◌-◌, ◌≤◌, length}
use Rattle.sessions.specs.Restoring.{clients_at}
use Rattle.sessions.specs.Snapshots.{held}
use Rattle.sessions.specs.Tables.{IsFreeFrom}
use Rattle.sessions.proofs.ReadLoops.{with_front}
use Rattle.sessions.proofs.snapshot_reader.read_each_client.Given as goal

abbrev pub invariant-loop : goal.invariant-loop
invariant-loop l =
    (with_front (held l.sessions) (clients_at (l.count - l.counter) l.from l.input) ≡ clients_at l.count 0 l.initial.input)
    × (IsFreeFrom l.from l.sessions × ((length l.sessions ≡ 256) × (l.from ≤ 256)))
