use Rattle.std.proofs.Common.{◌≡◌, ◌++◌, take}
use Rattle.std.specs.Prelude.{All}
use Rattle.std.specs.List.{flat_map}
use Rattle.sessions.specs.Snapshots.{FeatureFits, feature_bytes}
use Rattle.sessions.proofs.snapshot.push_each_feature.Given as goal

abbrev pub invariant-loop-at : goal.invariant-loop-at
invariant-loop-at l =
    (l.out.items ≡ l.initial.out.items ++ flat_map feature_bytes (take l.at l.fn.db)) × All FeatureFits (take l.at l.fn.db)
