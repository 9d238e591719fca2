use Rattle.std.proofs.Common.{◌≡◌, All, vec_len}
use Rattle.stable.specs.Memory.{stored}
use Rattle.stable.specs.Records.{no_records}
use Rattle.world.proofs.start.fresh_stores.Given as goal

-- as many as were made are there, and each is empty
abbrev pub invariant-loop : goal.invariant-loop
invariant-loop l = record {
  made : vec_len l.stores ≡ l.counter;
  empty : All (λ s. stored s ≡ no_records) l.stores.items;
}
