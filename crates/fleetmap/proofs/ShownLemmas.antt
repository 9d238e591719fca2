-- Features that were shown, one after the other.
use Rattle.std.proofs.Common.{◌≡◌, ℕ, zero, suc, ◌⊎◌, inl, inr, List, [], ◌∷◌, ◌++◌, length, slice_get, Some, refl, sym, ap, subst, ◌∙◌}
use Rattle.std.proofs.lemmas.Option.{same_Some, none-some}
use Rattle.mfjson.specs.declared.feature.Feature.{Feature}
use Rattle.tpoint.specs.Moving.{At, moment}
use Rattle.fleetmap.specs.Charts.{Square}
use Rattle.fleetmap.specs.Fleets.{IsShownAs, EachIsShown}
use Rattle.fleetmap.specs.declared.shown.Shown.{Shown}

-- what stands in a list with one element more at its end: that one, or what stood there
pushed_at : {A : Type 0} (xs : List A) (i : ℕ) (y z : A) → slice_get (xs ++ y ∷ []) i ≡ Some z
    → ((i ≡ length xs) × (y ≡ z)) ⊎ (slice_get xs i ≡ Some z)
pushed_at [] zero y z e = inl (refl, same_Some y z e)
pushed_at [] (suc i) y z e = absurd (none-some z e)
pushed_at (x ∷ xs) zero y z e = inr e
pushed_at (x ∷ xs) (suc i) y z e = elim (pushed_at xs i y z e) [ inl last ↦ inl (ap suc last.0, last.1) | inr before ↦ inr before ]

pub none_shown : (s : Square) (t : ℕ) (fs : List Feature) → EachIsShown s t fs []
none_shown s t fs = record { each = λ k f one _ here. absurd (none-some one here) }

-- the feature behind those that are shown is shown too
pub one_more_shown : (s : Square) (t : ℕ) (fs : List Feature) (shown : List Shown) (f : Feature) (one : Shown) → EachIsShown s t fs shown
    → slice_get fs (length shown) ≡ Some f → IsShownAs s (At f.seq (moment t)) one → EachIsShown s t fs (shown ++ one ∷ [])
one_more_shown s t fs shown f one before there is = record {
  each = λ k g other at here. elim (pushed_at shown k one other here) [
    | inl last ↦ subst (λ (o : Shown). IsShownAs s (At g.seq (moment t)) o) last.1
        (subst (λ (h : Feature). IsShownAs s (At h.seq (moment t)) one)
        (same_Some f g (sym there ∙ subst (λ i. slice_get fs i ≡ Some g) last.0 at)) is)
    | inr earlier ↦ before.each k g other at earlier
  ];
}
