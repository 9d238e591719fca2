use Rattle.std.proofs.Common.{◌≡◌, ◌≤◌, ◌*◌, take, length}
use Rattle.std.specs.List.{flat_map}
use Rattle.sessions.specs.Snapshots.{feature_bytes}
use Rattle.sessions.proofs.snapshot.features_len.Given as goal

abbrev pub invariant-loop-at : goal.invariant-loop-at
invariant-loop-at l =
    (l.len ≡ length (flat_map feature_bytes (take l.at l.fn.db))) × (l.len ≤ 24644 * l.at)
