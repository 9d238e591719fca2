-- Errors of results, handed on and told apart.
use Rattle.std.proofs.Common.{Result, Ok, Err, IsErrOf, ◌≡◌, sym, ap}
use Rattle.stable.specs.declared.fault.StableFault.TheVariants.{Device, Memory, Damaged}

abbrev error_of : {T E : Type 0} → E → Result T E → E
error_of e (Ok _) = e
error_of e (Err f) = f

-- which error it is
pub same_fault : {T E : Type 0} (e f : E) → IsErrOf {T = T} (Err e) f → e ≡ f
same_fault e f is = ap (error_of e) is

-- the error of a call that was handed on
pub handed_on : {T U E : Type 0} (e f : E) → IsErrOf {T = T} (Err e) f → IsErrOf {T = U} (Err e) f
handed_on e f is = ap Err (same_fault e f is)

-- the faults are told apart
pub device_not_memory : {T : Type 0} → ¬ IsErrOf {T = T} (Err Device) Memory
device_not_memory is = absurd (cc)

pub device_not_damaged : {T : Type 0} → ¬ IsErrOf {T = T} (Err Device) Damaged
device_not_damaged is = absurd (cc)

pub memory_not_device : {T : Type 0} → ¬ IsErrOf {T = T} (Err Memory) Device
memory_not_device is = device_not_memory (sym is)

pub memory_not_damaged : {T : Type 0} → ¬ IsErrOf {T = T} (Err Memory) Damaged
memory_not_damaged is = absurd (cc)

-- what succeeded failed with no fault
pub no_fault : {T E : Type 0} (x : T) (e : E) → ¬ IsErrOf (Ok x) e
no_fault x e is = absurd (cc)
