-- What a test that told no says.
--
-- `cc` in an answer reads all that is known there, which is dear: here it reads two facts.
use Rattle.std.proofs.Common.{◌≡◌, Bool, false}
use Rattle.std.specs.Prelude.{IsTrue}

pub never : {A : Type 0} → IsTrue false → A
never told = absurd (cc)

-- what would have made it tell yes is not so
pub told_no : {P : Type 0} {b : Bool} → b ≡ false → (P → IsTrue b) → ¬ P
told_no failed tells p = let passed = tells p in absurd (cc)
