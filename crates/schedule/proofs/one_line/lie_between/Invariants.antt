use Rattle.std.proofs.Common.{◌≤◌}
use Rattle.std.specs.List.{AllWithin}
use Rattle.schedule.proofs.one_line.lie_between.Given as goal

-- each byte before this one lies between the least and the greatest
abbrev pub invariant-loop-byte : goal.invariant-loop-byte
invariant-loop-byte l = AllWithin (λ byte. (l.least ≤ byte) × (byte ≤ l.greatest)) l.text 0 l.byte-index
