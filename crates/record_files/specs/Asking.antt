-- What a storage is asked for, and what its answer says.
use Rattle.std.specs.Prelude.{◌≡◌, ◌↔◌, List, Result, Ok, Err, IsSome, Contains, option_map}
use Rattle.stable.specs.Records.{KeysAscend, Sets, Trims}
use Rattle.stable.specs.declared.fault.StableFault.{StableFault}
use Rattle.stable.specs.declared.fault.StableFault.TheVariants as fault
use Rattle.stable.specs.declared.key.Key.{Key}
use Rattle.stable.specs.declared.stable.Stable.{Ghosts}
use Rattle.record_files.specs.declared.asked.Answer.{Answer}
use Rattle.record_files.specs.declared.asked.Answer.TheVariants as answer
use Rattle.record_files.specs.declared.asked.Asked.{Asked}
use Rattle.record_files.specs.declared.asked.Asked.TheVariants as asked

module _ {S : Type 0} (g : Ghosts S) (a : S) where
  -- what becomes of it where it answers with a fault other than Damaged
  abbrev pub StorageFails : (S → Type 0) → StableFault → S → Type 0
  StorageFails fails fault.Device b = fails b
  StorageFails fails fault.Memory b = g.reads a b
  StorageFails fails fault.Damaged b = ⊥

  -- the keys are all that hold a record
  pub record Lists (keys : List Key) (b : S) : Type 0 where
    pub told : g.IsHonest b → (k : Key) → Contains keys k ↔ IsSome (g.contents a k)
    pub ascending : g.IsHonest b → KeysAscend keys
    pub no_stray : g.IsHonest b → ¬ (g.HasStrayKey a)
    pub looks : g.looks a b
    pub settled : g.IsSettled b

  -- what the answer to what is asked for says
  abbrev pub StorageAnswers : Asked → Result Answer StableFault → S → Type 0
  StorageAnswers (asked.Get key) (Ok (answer.Found found)) b =
      (g.IsHonest b → option_map (λ bytes. bytes.items) found ≡ g.contents a key) × g.reads a b
  StorageAnswers (asked.Get key) (Ok answer.Done) b = ⊥
  StorageAnswers (asked.Get key) (Ok (answer.Listed keys)) b = ⊥
  StorageAnswers (asked.Get key) (Err f) b = StorageFails (g.read_fails a) f b
  StorageAnswers (asked.Put key bytes) (Ok (answer.Found found)) b = ⊥
  StorageAnswers (asked.Put key bytes) (Ok answer.Done) b = g.changes a (Sets key bytes.items) b
  StorageAnswers (asked.Put key bytes) (Ok (answer.Listed keys)) b = ⊥
  StorageAnswers (asked.Put key bytes) (Err f) b = StorageFails (g.fails a (Sets key bytes.items)) f b
  StorageAnswers (asked.TrimBelow below) (Ok (answer.Found found)) b = ⊥
  StorageAnswers (asked.TrimBelow below) (Ok answer.Done) b = g.changes a (Trims below) b
  StorageAnswers (asked.TrimBelow below) (Ok (answer.Listed keys)) b = ⊥
  StorageAnswers (asked.TrimBelow below) (Err f) b = StorageFails (g.fails a (Trims below)) f b
  StorageAnswers asked.Keys (Ok (answer.Found found)) b = ⊥
  StorageAnswers asked.Keys (Ok answer.Done) b = ⊥
  StorageAnswers asked.Keys (Ok (answer.Listed keys)) b = Lists keys.items b
  StorageAnswers asked.Keys (Err fault.Device) b = g.read_fails a b
  StorageAnswers asked.Keys (Err fault.Memory) b = g.looks a b
  StorageAnswers asked.Keys (Err fault.Damaged) b = g.looks a b × (g.IsHonest b → g.HasStrayKey a)
