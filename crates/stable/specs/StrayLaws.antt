-- What calls one after the other come to for stray keys.
use Rattle.std.specs.Prelude.{◌↔◌}
use Rattle.stable.specs.Laws.{KeepsStray}
use Rattle.stable.specs.Records.{Change, Sets, Trims}

-- a change that leaves them all
pub stray_same : {A B : Type 0} (change : Change) → B ↔ A → KeepsStray change A B
stray_same (Sets key bytes) same = same
stray_same (Trims below) same = same.0

-- a change after a call that leaves them
pub stray_after : {A B : Type 0} (C : Type 0) (change : Change) → B ↔ A → KeepsStray change B C → KeepsStray change A C
stray_after C (Sets key bytes) same kept = (λ c. same.0 (kept.0 c), λ a. kept.1 (same.1 a))
stray_after C (Trims below) same kept = λ c. same.0 (kept c)

-- and before one
pub stray_before : (A : Type 0) {B C : Type 0} (change : Change) → KeepsStray change A B → C ↔ B → KeepsStray change A C
stray_before A (Sets key bytes) kept same = (λ c. kept.0 (same.0 c), λ a. same.1 (kept.1 a))
stray_before A (Trims below) kept same = λ c. kept (same.0 c)
