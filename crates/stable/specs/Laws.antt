-- The laws of a storage: what its calls may make of it, and what calls one after the other come to.
use Rattle.std.specs.Prelude.{◌≡◌, ℕ, ◌<◌, ◌≤◌, ◌↔◌, ◌⊎◌}
use Rattle.stable.specs.Records.{Records, Change, Sets, Trims, changed}

-- whether there is a stray key before a change and after it: a put neither makes one nor loses one, a trim makes none
abbrev pub KeepsStray : Change → Type 0 → Type 0 → Type 0
KeepsStray (Sets key bytes) before after = after ↔ before
KeepsStray (Trims below) before after = after → before

-- a storage that is honest after a call was honest before it, and has the same stray keys, but for what a trim takes out;
-- what is said of records and of the count is said where it is honest
pub record KeepsLaws {S : Type 0} (contents : S → Records) (failures : S → ℕ) (IsHonest HasStrayKey IsSettled : S → Type 0)
    (reads looks : S → S → Type 0) (changes : S → Change → S → Type 0)
    (read_fails : S → S → Type 0) (fails : S → Change → S → Type 0) : Type 0 where
  -- reading leaves the records
  pub reads_honest : (a b : S) → reads a b → IsHonest b → IsHonest a
  pub reads_contents : (a b : S) → reads a b → IsHonest b → contents b ≡ contents a
  pub reads_failures : (a b : S) → reads a b → IsHonest b → failures a ≤ failures b
  pub reads_stray : (a b : S) → reads a b → IsHonest b
      → HasStrayKey b ↔ HasStrayKey a
  pub reads_settled : (a b : S) → reads a b → IsSettled a → IsSettled b
  -- a call that reads and on which the device failed was counted, and left the records
  pub read_fails_honest : (a b : S) → read_fails a b → IsHonest b → IsHonest a
  pub read_fails_contents : (a b : S) → read_fails a b → IsHonest b
      → contents b ≡ contents a
  pub read_fails_failures : (a b : S) → read_fails a b → IsHonest b
      → failures a < failures b
  pub read_fails_stray : (a b : S) → read_fails a b → IsHonest b
      → HasStrayKey b ↔ HasStrayKey a
  -- a change is made, and nothing else
  pub changes_honest : (a b : S) (change : Change) → changes a change b → IsHonest b
      → IsHonest a
  pub changes_contents : (a b : S) (change : Change) → changes a change b → IsHonest b
      → contents b ≡ changed (contents a) change
  pub changes_failures : (a b : S) (change : Change) → changes a change b → IsHonest b
      → failures a ≤ failures b
  pub changes_stray : (a b : S) (change : Change) → changes a change b → IsHonest b
      → KeepsStray change (HasStrayKey a) (HasStrayKey b)
  pub changes_settled : (a b : S) (change : Change) → changes a change b → IsSettled b
  -- a change on which the device failed was counted, and left the old records or the new ones
  pub fails_honest : (a b : S) (change : Change) → fails a change b → IsHonest b
      → IsHonest a
  pub fails_contents : (a b : S) (change : Change) → fails a change b → IsHonest b
      → (contents b ≡ contents a) ⊎ (contents b ≡ changed (contents a) change)
  pub fails_failures : (a b : S) (change : Change) → fails a change b → IsHonest b
      → failures a < failures b
  pub fails_stray : (a b : S) (change : Change) → fails a change b → IsHonest b
      → KeepsStray change (HasStrayKey a) (HasStrayKey b)
  -- calls that look are calls that read
  pub looks_reads : (a b : S) → looks a b → reads a b
  -- calls one after the other
  pub reads_none : (a : S) → reads a a
  pub reads_reads : (a b c : S) → reads a b → reads b c → reads a c
  pub reads_looks : (a b c : S) → reads a b → looks b c → looks a c
  pub looks_then_reads : (a b c : S) → looks a b → reads b c → looks a c
  pub reads_read_fails : (a b c : S) → reads a b → read_fails b c → read_fails a c
  pub reads_changes : (a b c : S) (change : Change) → reads a b → changes b change c
      → changes a change c
  pub reads_fails : (a b c : S) (change : Change) → reads a b → fails b change c
      → fails a change c
  pub changes_reads : (a b c : S) (change : Change) → changes a change b → reads b c
      → changes a change c
