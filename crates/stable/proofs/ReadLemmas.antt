-- What a reading of a scripted storage comes to, from what the storage inside makes of it.
use Rattle.std.proofs.Common.{Result, Ok, Err, OnOk, IsErrOf, Some, ◌≡◌, ◌≢◌, refl, ap, inl}
use Rattle.stable.specs.Script.{Script, ScriptReads, Looks}
use Rattle.stable.specs.ScriptLaws.{scripted_laws}
use Rattle.stable.specs.Storages.{IsLawful}
use Rattle.stable.specs.declared.fault.StableFault.{StableFault}
use Rattle.stable.specs.declared.fault.StableFault.TheVariants.{Device, Memory, Damaged}
use Rattle.stable.specs.declared.scripted.Failing.TheVariants.{Read}
use Rattle.stable.specs.declared.stable.Stable.{Ghosts}

module _ {S : Type 0} (storage : Ghosts S) (laws : IsLawful storage) where
  -- honest after a reading, whatever its outcome, is honest before it
  pub honest_before : {T : Type 0} (r : Result T StableFault) (m b : S) → OnOk r (storage.reads m b)
      → (IsErrOf r Device → storage.read_fails m b) → (IsErrOf r Memory → storage.reads m b)
      → (IsErrOf r Damaged → storage.reads m b) → storage.IsHonest b → storage.IsHonest m
  honest_before (Ok x) m b ok device memory damaged h = laws.reads_honest m b ok h
  honest_before (Err Device) m b ok device memory damaged h = laws.read_fails_honest m b (device refl) h
  honest_before (Err Memory) m b ok device memory damaged h = laws.reads_honest m b (memory refl) h
  honest_before (Err Damaged) m b ok device memory damaged h = laws.reads_honest m b (damaged refl) h

  -- only the storage inside read on
  pub then_read : (a m b : Script S) → ScriptReads storage.contents storage.IsHonest storage.reads a m
      → b ≡ record m { inner = b.inner } → storage.reads m.inner b.inner
      → ScriptReads storage.contents storage.IsHonest storage.reads a b
  then_read a m b before after read = (scripted_laws laws).reads_reads a m b before (record {
    inner = read;
    armed = ap (λ t. t.armed) after;
    fired = ap (λ t. t.fired) after;
    trimmed = ap (λ t. t.trimmed) after;
    list = inl (ap (λ t. t.writes) after, ap (λ t. t.unsure) after);
  })

  -- only the storage inside was asked for its keys, and nothing was armed against that
  pub then_look : (a m b : Script S) → ScriptReads storage.contents storage.IsHonest storage.reads a m
      → b ≡ record m { inner = b.inner } → a.armed ≢ Some Read → storage.looks m.inner b.inner
      → Looks storage.contents storage.IsHonest storage.reads a b
  then_look a m b before after unarmed look =
      record { read = then_read a m b before after (laws.looks_reads _ _ look); unarmed = unarmed }
