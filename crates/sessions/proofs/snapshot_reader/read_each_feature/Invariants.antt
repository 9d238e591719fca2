use Rattle.std.proofs.Common.{◌≡◌, ◌-◌, None, length}
use Rattle.store.specs.Features.{IsDatabase}
use Rattle.sessions.specs.Restoring.{features_at}
use Rattle.sessions.proofs.PlaceLemmas.{last_id}
use Rattle.sessions.proofs.ReadLoops.{with_front}
use Rattle.sessions.proofs.snapshot_reader.read_each_feature.Given as goal

abbrev pub invariant-loop : goal.invariant-loop
invariant-loop l =
    (with_front l.db (features_at (l.count - l.counter) l.before l.input) ≡ features_at l.count None l.initial.input)
    × ((l.before ≡ last_id l.db) × ((length l.db ≡ l.counter) × IsDatabase l.db))
