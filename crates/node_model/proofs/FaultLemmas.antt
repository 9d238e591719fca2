-- What a call that writes nothing leaves to be said, and what its faults can be.
use Rattle.std.proofs.Common.{◌≡◌, ◌⊎◌, inl, inr, Option, Some, None, Result, Ok, Err, IfSome, OnOk, IfErr, IsErrOf, refl}
use Rattle.std.proofs.lemmas.Result.{IfErr-weaker, IfErr-at_err}
use Rattle.stable.specs.declared.stable.Stable.{Ghosts}
use Rattle.acceptor.specs.Accepting.{OptionalWrite}
use Rattle.node_model.specs.declared.fault.NodeFault.{NodeFault}
use Rattle.node_model.specs.declared.fault.NodeFault.TheVariants.{Device, Memory}
use Rattle.node_model.specs.declared.input.Input.{Input}
use Rattle.node_model.specs.Replicas.{ReplicaState, refuses}
use Rattle.node_model.specs.Nodes.{HasMade, Made}
use Rattle.node_model.proofs.RefusalLemmas.{refusal_goes_on}

-- the faults are told apart
pub device_not_memory : ¬ (Device ≡ Memory)
device_not_memory is = absurd (cc)

pub memory_not_device : {T : Type 0} → ¬ IsErrOf {T = T} (Err Memory) Device
memory_not_device is = absurd (cc)

-- what succeeded failed with no fault
pub no_fault : {T E : Type 0} (x : T) (e : E) → ¬ IsErrOf (Ok x) e
no_fault x e is = absurd (cc)

pub on_ok : {T E : Type 0} {P : Type 0} (r : Result T E) → P → OnOk r P
on_ok (Ok x) p = p
on_ok (Err e) p = tt

module _ {T : Type 0} (r : Result T NodeFault) (alone : IfErr r (λ f. f ≡ Memory)) where
  -- memory is the one fault, and so one of two
  pub memory_of_two : IfErr r (λ f. (f ≡ Device) ⊎ (f ≡ Memory))
  memory_of_two = IfErr-weaker r _ _ (λ _ is. inr is) alone

  pub memory_alone : ¬ IsErrOf r Device
  memory_alone is = device_not_memory (IfErr-at_err (λ f. f ≡ Memory) is alone)

-- nor is the device's among what an input is refused with
pub memory_or_refused : {T : Type 0} (r : Result T NodeFault) (m : ReplicaState) (i : Input)
    → IfErr r (λ f. (f ≡ Memory) ⊎ (refuses m i ≡ Some f)) → ¬ IsErrOf r Device
memory_or_refused r m i faults is = elim (IfErr-at_err (λ f. (f ≡ Memory) ⊎ (refuses m i ≡ Some f)) is faults) [
  | inl memory ↦ device_not_memory memory
  | inr refused ↦ absurd (let up = refusal_goes_on m i Device refused in cc)
]

-- no write is the one to be made, and none is made
pub made_none : {S : Type 0} (storages : Ghosts S) (old new : S) (Writes : OptionalWrite → Type 0) → storages.reads old new → Writes None
    → HasMade storages old new Writes
made_none storages old new Writes reads none = record { write = None; made = none; leaves = reads }

-- the storage is as it was, too
pub storage_too : {T M S : Type 0} (r : Result T NodeFault) (old new : M) (storage : S) (refused : Option NodeFault)
    → IfSome refused (λ f. (r ≡ Err f) × (new ≡ old)) → IfSome refused (λ f. (r ≡ Err f) × (new ≡ old) × (storage ≡ storage))
storage_too r old new storage None is = tt
storage_too r old new storage (Some f) is = (is.0, is.1, refl)

-- memory was wanting at most, and nothing is to be written
pub made_nothing : {S T : Type 0} (storages : Ghosts S) (old : S) (r : Result T NodeFault) (Writes : OptionalWrite → Type 0)
    → storages.reads old old → Writes None → IfErr r (λ f. f ≡ Memory) → Made storages old r old Writes
made_nothing storages old r Writes reads none alone = record {
  written = on_ok r (made_none storages old old Writes reads none);
  device = λ is. absurd (memory_alone r alone is);
  memory = λ _. inl reads;
}
