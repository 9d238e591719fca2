-- What a node's records have seen.
use Rattle.std.specs.Prelude.{ℕ, ◌+◌, max, List, [], ◌∷◌}
use Rattle.stable.specs.declared.key.Key.{Key}
use Rattle.stable.specs.declared.key.Key.TheVariants.{Vote}

-- one more than the slot of a vote
abbrev pub end_of : Key → ℕ
end_of (Vote slot) = slot + 1
end_of _ = 0

-- the least number above the slot of each vote among these keys
abbrev pub horizon_of : List Key → ℕ
horizon_of [] = 0
horizon_of (key ∷ keys) = max (end_of key) (horizon_of keys)
