-- Fields that are read among frames.
use Rattle.std.proofs.Common.{◌≡◌, Bool, true, false, ◌&&◌, ◌||◌, Result, Ok, Err, IsOk, IsOkAnd, refl}
use Rattle.fields.specs.Reading.{◌>>=◌}
use Rattle.fields.specs.declared.fault.FieldFault.{FieldFault}
use Rattle.wire.specs.declared.frames.fault.WireFault.{WireFault}
use Rattle.wire.specs.Reading.{wide}

-- the value of a field that did not fail, as a first step
pub bind_wide : {A B : Type 0} (r : Result A FieldFault) (f : A → Result B WireFault) (y : B) → (wide r >>= f) ≡ Ok y → (x : A) × (r ≡ Ok x)
    × (f x ≡ Ok y)
bind_wide (Ok x) f y e = (x, refl, e)
bind_wide (Err d) f y e = absurd cc

-- a field that did not fail, by itself
pub wide_ok : {A : Type 0} (r : Result A FieldFault) (y : A) → wide r ≡ Ok y → r ≡ Ok y
wide_ok (Ok x) y e = cc
wide_ok (Err d) y e = absurd cc

-- what follows a step that did not fail
pub ok_and : {A F : Type 0} (r : Result A F) (P : A → Type 0) → IsOkAnd r P → (x : A) × (r ≡ Ok x) × P x
ok_and (Ok x) P h = (x, refl, h)
ok_and (Err e) P h = absurd h

pub is_ok : {A F : Type 0} (r : Result A F) → IsOk r → (x : A) × (r ≡ Ok x)
is_ok (Ok x) h = (x, refl)
is_ok (Err e) h = absurd cc

-- ---- two tests
pub neither : (a b : Bool) → (a || b) ≡ false → (a ≡ false) × (b ≡ false)
neither true b e = absurd cc
neither false b e = (refl, e)

pub both_hold : (a b : Bool) → (a && b) ≡ true → (a ≡ true) × (b ≡ true)
both_hold true b e = (refl, e)
both_hold false b e = absurd cc
