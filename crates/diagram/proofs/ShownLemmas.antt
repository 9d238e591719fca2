-- What is shown of some things: those whose steps have a place.
use Rattle.std.proofs.Common.{◌≡◌, ◌⊎◌, inl, inr, ℕ, zero, suc, ◌+◌, ◌<◌, List, [], ◌∷◌, ◌++◌, length, take, slice_index_or, sym, subst, arith}
use Rattle.diagram.specs.Drawn.{Adds, Draws, more, none as nothing}
use Rattle.diagram.specs.Places.{Stands}
use Rattle.diagram.specs.Shown.{DrawsStanding, left_out, none, shown}
use Rattle.diagram.proofs.ListLemmas.{take_so_far}

stands_or_not : (n : ℕ) → (0 < n) ⊎ (¬ (0 < n))
stands_or_not zero = inr (λ h. omega (arith, h))
stands_or_not (suc n) = inl (omega arith)

module _ {A : Type 0} (step_of : A → ℕ) (IsDrawn : A → List ℕ → Type 0) (ends : List ℕ) where
  pub none_standing : (a : List ℕ) → DrawsStanding step_of IsDrawn ends [] a a
  none_standing a = record { shown = []; are = none; drawn = nothing }

  standing : (things : List A) (x : A) (a b c : List ℕ) → DrawsStanding step_of IsDrawn ends things a b
      → (Stands ends (step_of x) → Adds (IsDrawn x) b c) → (¬ (Stands ends (step_of x)) → c ≡ b)
      → DrawsStanding step_of IsDrawn ends (things ++ x ∷ []) a c
  standing things x a b c before stands not = elim (stands_or_not (slice_index_or ends (step_of x) 0)) [
    | inl h ↦ record {
      shown = before.shown ++ x ∷ [];
      are = shown things before.shown x before.are h;
      drawn = more before.shown x b c before.drawn (stands h);
    }
    | inr h ↦ record {
      shown = before.shown;
      are = left_out things before.shown x before.are h;
      drawn = subst (λ (t : List ℕ). Draws IsDrawn a before.shown t) (sym (not h)) before.drawn;
    }
  ]

  pub one_more_standing : (things : List A) (i : ℕ) (x : A) (a b c : List ℕ) → i < length things → x ≡ slice_index_or things i x
      → DrawsStanding step_of IsDrawn ends (take i things) a b → (Stands ends (step_of x) → Adds (IsDrawn x) b c)
      → (¬ (Stands ends (step_of x)) → c ≡ b) → DrawsStanding step_of IsDrawn ends (take (i + 1) things) a c
  one_more_standing things i x a b c below read before stands not =
      let more = take_so_far things i x below read in
      subst (λ (xs : List A). DrawsStanding step_of IsDrawn ends xs a c) more (standing (take i things) x a b c before stands not)
