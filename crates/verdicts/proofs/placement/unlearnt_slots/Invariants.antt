use Rattle.std.proofs.Common.{◌≡◌, replicate, None}
use Rattle.verdicts.proofs.placement.unlearnt_slots.Given as goal

abbrev pub invariant-loop : goal.invariant-loop
invariant-loop l = l.names.items ≡ replicate l.counter None
