use Rattle.std.proofs.Common.{◌≡◌, ◌≢◌, ◌<◌, None}
use Rattle.stable.specs.Records.{letter, rank, slot_in}
use Rattle.stable.specs.declared.key.Key.{Key}
use Rattle.stable.proofs.key.Key.of_letter.Given as goal

-- no key that was looked at is spelled so
abbrev pub invariant-loop-place : goal.invariant-loop-place
invariant-loop-place l = (key : Key) → slot_in key ≡ None → rank key < l.place → letter key ≢ l.fn.byte
