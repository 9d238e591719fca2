-- Storages over which no run begins.
use Rattle.std.proofs.Common.{◌≡◌, ◌==◌, ◌↔◌, ◌⊎◌, inl, inr, ℕ, zero, List, [], ◌∷◌, ◌++◌, length, false, Option, None, IsSome, Contains}
use Rattle.std.proofs.Common.{All, Result, Ok, Err, IfErr, refl, sym, ap, subst, arith, true≢false}
use Rattle.std.proofs.lemmas.List.Elements.{All-contains, Contains-append_right}
use Rattle.stable.specs.Memory.{in_memory, stored}
use Rattle.stable.specs.Records.{Records, no_records}
use Rattle.stable.specs.declared.key.Key.{Key}
use Rattle.stable.specs.declared.memory.MemStable.{MemStable}
use Rattle.stable.specs.declared.stable.Stable.{Ghosts}
use Rattle.world_model.specs.Starting.{StorageIsUsed, OneIsUsed, told, failed}
use Rattle.events.specs.declared.fault.WorldFault.{WorldFault}
use Rattle.events.specs.declared.fault.WorldFault.TheVariants as fault

-- the first of a list is in it
pub first_is_in : {A : Type 0} (x : A) (xs : List A) → Contains (x ∷ xs) x
first_is_in x xs = (zero, omega arith, refl)

module _ {S : Type 0} (storages : Ghosts S) where
  -- a storage that told a key holds that key's record
  pub keys_used : (keys : List Key) (len : ℕ) (before after : S) → len ≡ length keys → false ≡ (len == 0) → storages.reads before after
      → (storages.IsHonest after → (k : Key) → Contains keys k ↔ IsSome (storages.contents before k)) → StorageIsUsed storages before
  keys_used [] len before after same some reads keys = absurd (true≢false (sym (subst (λ (n : ℕ). false ≡ (n == 0)) same some)))
  keys_used (k ∷ keys) len before after same some reads holds =
      told after reads (λ honest. inr (k, (holds honest k).0 (first_is_in k keys)))

  -- one of those that are left is one of all
  pub one_of_all : (all before left after : List S) (s : S) → before ++ left ≡ all → left ≡ s ∷ after → StorageIsUsed storages s
      → OneIsUsed storages all
  one_of_all all before left after s parts next used = record {
    store = s;
    listed = subst (λ (l : List S). Contains l s) parts (Contains-append_right before left s
        (subst (λ (l : List S). Contains l s) (sym next) (first_is_in s after)));
    used = used;
  }

-- nothing is not something
none_is_some : {A : Type 0} (o : Option A) → o ≡ None → IsSome o → ⊥
none_is_some o none some = true≢false (sym (subst (λ (p : Option _). IsSome p) none some))

-- a storage in memory that has no record is found used by no look
unused : (s : MemStable) → stored s ≡ no_records → StorageIsUsed in_memory s → ⊥
unused s empty (told after reads holds) = elim (holds tt) [
  | inl stray ↦ stray
  | inr found ↦ none_is_some (stored s found.0) (ap (λ (r : Records). r found.0) empty) found.1
]
unused s empty (failed after fails) = fails

pub none_used : (stores : List MemStable) → All (λ s. stored s ≡ no_records) stores → OneIsUsed in_memory stores → ⊥
none_used stores empty one =
    unused one.store (All-contains (λ (s : MemStable). stored s ≡ no_records) stores one.store empty one.listed) one.used

-- so memory alone may be wanting
pub memory_alone : {T : Type 0} (result : Result T WorldFault) (stores : List MemStable) → All (λ s. stored s ≡ no_records) stores
    → IfErr result (λ f. f ≡ fault.NotEmpty → OneIsUsed in_memory stores) → IfErr result (λ f. (f ≡ fault.NotEmpty) ⊎ (f ≡ fault.Memory))
    → IfErr result (λ f. f ≡ fault.Memory)
memory_alone (Ok x) stores empty used faults = tt
memory_alone (Err f) stores empty used (inl e) = absurd (none_used stores empty (used e))
memory_alone (Err f) stores empty used (inr e) = e
