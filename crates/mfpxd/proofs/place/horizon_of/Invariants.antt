use Rattle.std.proofs.Common.{◌≡◌, drop, max}
use Rattle.mfpxd.specs.Records.{horizon_of}
use Rattle.mfpxd.proofs.place.horizon_of.Given as goal

-- the votes that were seen, and those that are left, make the horizon
abbrev pub invariant-loop-key : goal.invariant-loop-key
invariant-loop-key l = max l.horizon (horizon_of (drop l.key-index l.keys)) ≡ horizon_of l.keys
