-- The keys that hold a record, in order.
use Rattle.std.specs.Prelude.{◌↔◌, ℕ, ◌<◌, List, Contains, IsSome}
use Rattle.stable.specs.Records.{Records, rank, KeysAscend}
use Rattle.stable.specs.declared.key.Key.{Key}

-- these are the keys below a place in the order of keys that hold a record
pub record ListsTo (records : Records) (end : ℕ) (keys : List Key) : Type 0 where
  pub told : (k : Key) → Contains keys k ↔ ((rank k < end) × IsSome (records k))
  pub ascending : KeysAscend keys
