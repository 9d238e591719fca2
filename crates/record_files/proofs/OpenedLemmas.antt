-- The files that were opened, one after the other.
use Rattle.std.proofs.Common.{◌≡◌, ℕ, zero, suc, ◌⊎◌, inl, inr, List, [], ◌∷◌, ◌++◌, length, slice_get, Some, refl, sym, ap, subst}
use Rattle.std.proofs.lemmas.Option.{same_Some, none-some}
use Rattle.record_files.specs.Opening.{AreOpened, IsOpened}
use Rattle.record_files.specs.declared.access.FileAccess.{Ghosts}

-- what stands in a list with one element more at its end: that one, or what stood there
pushed_at : {A : Type 0} (xs : List A) (i : ℕ) (y z : A) → slice_get (xs ++ y ∷ []) i ≡ Some z
    → ((i ≡ length xs) × (y ≡ z)) ⊎ (slice_get xs i ≡ Some z)
pushed_at [] zero y z e = inl (refl, same_Some y z e)
pushed_at [] (suc i) y z e = absurd (none-some z e)
pushed_at (x ∷ xs) zero y z e = inr e
pushed_at (x ∷ xs) (suc i) y z e = elim (pushed_at xs i y z e) [ inl last ↦ inl (ap suc last.0, last.1) | inr before ↦ inr before ]

module _ {A F : Type 0} (files : Ghosts A F) (folder : List ℕ) where
  pub none_opened : (stores : List F) → stores ≡ [] → AreOpened files folder stores
  none_opened stores none = subst (λ (xs : List F). AreOpened files folder xs) (sym none)
      (record { each = λ i store here. absurd (none-some store here) })

  pub one_more_opened : (stores more : List F) (store : F) → more ≡ stores ++ store ∷ [] → AreOpened files folder stores
      → IsOpened files folder (length stores) store → AreOpened files folder more
  one_more_opened stores more store is opened here = subst (λ (xs : List F). AreOpened files folder xs) (sym is) (record {
    each = λ i s at. elim (pushed_at stores i store s at) [
      | inl last ↦ subst (λ (x : F). IsOpened files folder i x) last.1 (subst (λ k. IsOpened files folder k store) (sym last.0) here)
      | inr before ↦ opened.each i s before
    ];
  })
