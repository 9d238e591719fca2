-- The storages over which a run begins, and those over which none does.
use Rattle.std.specs.Prelude.{◌≡◌, ◌⊎◌, ℕ, List, slice_get, Some, IsSome, Contains}
use Rattle.stable.specs.Script.{Script}
use Rattle.stable.specs.declared.key.Key.{Key}
use Rattle.stable.specs.declared.stable.Stable.{Ghosts}
use Rattle.node_model.specs.States.{NodeState}

module _ {S : Type 0} (storages : Ghosts S) where
  -- a key holds a record, or one is stored that is the spelling of none
  abbrev pub StorageHoldsRecords : S → Type 0
  StorageHoldsRecords s = storages.HasStrayKey s ⊎ ((key : Key) × IsSome (storages.contents s key))

  -- asked for its keys, it told that there are some; or its device failed
  pub data StorageIsUsed (s : S) : Type 0 where
    told : (after : S) → storages.reads s after → (storages.IsHonest after → StorageHoldsRecords s) → StorageIsUsed s
    failed : (after : S) → storages.read_fails s after → StorageIsUsed s

  -- so it is with one of these
  pub record OneIsUsed (stores : List S) : Type 0 where
    pub store : S
    pub listed : Contains stores store
    pub used : StorageIsUsed store

  -- calls that write nothing made the one of the other
  abbrev pub WasRead : S → S → Type 0
  WasRead before after = storages.reads before after ⊎ storages.read_fails before after

  -- each node is over its own of these, which was only read
  pub record AreOver (stores : List S) (nodes : List (NodeState (Script S))) : Type 0 where
    pub each : (i : ℕ) (s : S) (n : NodeState (Script S)) → slice_get stores i ≡ Some s → slice_get nodes i ≡ Some n
        → WasRead s n.storage.inner
