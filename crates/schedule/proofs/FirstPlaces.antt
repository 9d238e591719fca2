-- The first place of a byte, as it is searched for in a long text.
use Rattle.std.proofs.Common.{◌≡◌, ℕ, zero, suc, ◌+◌, ◌<◌, List, [], ◌∷◌, length, Bool, true, false, Option, Some, None, refl, sym, ap, ◌∙◌}
use Rattle.std.proofs.Common.{arith}
use Rattle.std.specs.Prelude.{position}
use Rattle.std.specs.List.{position_from}
use Rattle.std.proofs.lemmas.Iterator.Adapters.{position_from-zero}
use Rattle.memchr.specs.Find.{Passes, Nowhere, IsFirstByte}

refused : (b : Bool) → ¬ (b ≡ true) → b ≡ false
refused true h = absurd (h refl)
refused false h = refl

module _ (test : ℕ → Bool) where
  nowhere : (xs : List ℕ) (i : ℕ) → Nowhere (Passes test xs) 0 (length xs) → position_from test i xs ≡ None
  nowhere [] i h = refl
  nowhere (x ∷ xs) i h =
      rw (refused (test x) (h 0 (omega arith) (omega arith)))
      (nowhere xs (i + 1) (λ k low high p. h (suc k) (omega arith) (omega arith) p))

  somewhere : (xs : List ℕ) (i k : ℕ) → Passes test xs k → k < length xs → Nowhere (Passes test xs) 0 k →
      position_from test i xs ≡ Some (i + k)
  somewhere [] i k p within before = absurd (omega arith)
  somewhere (x ∷ xs) i zero p within before = rw p (ap Some (omega arith))
  somewhere (x ∷ xs) i (suc k) p within before =
      rw (refused (test x) (before 0 (omega arith) (omega arith)))
      (somewhere xs (i + 1) k p (omega arith) (λ j low high q. before (suc j) (omega arith) (omega arith) q) ∙ ap Some (omega arith))

  pub first_is_position : (xs : List ℕ) (r : Option ℕ) → IsFirstByte test xs r → r ≡ position test xs
  first_is_position xs None h = sym (nowhere xs 0 h) ∙ sym (position_from-zero test xs)
  first_is_position xs (Some k) h = ap Some (omega arith) ∙ sym (somewhere xs 0 k h.1 h.0.high h.0.before) ∙ sym
      (position_from-zero test xs)
