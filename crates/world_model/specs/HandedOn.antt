-- The storage of a node over all its processes: each opens what the one before it left.
use Rattle.std.specs.Prelude.{◌≡◌, ◌⊎◌, ◌↔◌, ℕ, ◌+◌, ⊤}
use Rattle.stable.specs.Laws.{KeepsStray}
use Rattle.stable.specs.Records.{Change, changed}
use Rattle.stable.specs.declared.stable.Stable.{Ghosts}

module _ {S : Type 0} (storages : Ghosts S) where
  -- where it is honest it was so before, and it holds what it held
  pub record HoldsStill (old new : S) : Type 0 where
    pub honest : storages.IsHonest new → storages.IsHonest old
    pub records : storages.IsHonest new → storages.contents new ≡ storages.contents old
    pub stray : storages.IsHonest new → storages.HasStrayKey new ↔ storages.HasStrayKey old

  -- it does so but for one change
  pub record HoldsChanged (old : S) (change : Change) (new : S) : Type 0 where
    pub honest : storages.IsHonest new → storages.IsHonest old
    pub records : storages.IsHonest new → storages.contents new ≡ changed (storages.contents old) change
    pub stray : storages.IsHonest new → KeepsStray change (storages.HasStrayKey old) (storages.HasStrayKey new)

  -- it does so but for one change that was made or not
  pub record MayHoldChanged (old : S) (change : Change) (new : S) : Type 0 where
    pub honest : storages.IsHonest new → storages.IsHonest old
    pub records : storages.IsHonest new → (storages.contents new ≡ storages.contents old)
        ⊎ (storages.contents new ≡ changed (storages.contents old) change)
    pub stray : storages.IsHonest new → KeepsStray change (storages.HasStrayKey old) (storages.HasStrayKey new)

-- a storage in the hands of the last process, and how many failures all processes saw
pub record HandedOn (S : Type 0) : Type 0 where
  pub storage : S
  pub failures : ℕ

-- it is seen by what it holds alone, so that the next process may open it by another value
abbrev pub handed_on : {S : Type 0} → Ghosts S → Ghosts (HandedOn S)
handed_on storages = record {
  contents = λ s. storages.contents s.storage;
  failures = λ s. s.failures;
  IsHonest = λ s. storages.IsHonest s.storage;
  HasStrayKey = λ s. storages.HasStrayKey s.storage;
  IsSettled = λ s. ⊤;
  reads = λ a b. HoldsStill storages a.storage b.storage × (b.failures ≡ a.failures);
  looks = λ a b. HoldsStill storages a.storage b.storage × (b.failures ≡ a.failures);
  changes = λ a change b. HoldsChanged storages a.storage change b.storage × (b.failures ≡ a.failures);
  read_fails = λ a b. HoldsStill storages a.storage b.storage × (b.failures ≡ a.failures + 1);
  fails = λ a change b. MayHoldChanged storages a.storage change b.storage × (b.failures ≡ a.failures + 1);
}
