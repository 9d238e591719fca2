-- A point more at the end of a sequence.
use Rattle.std.proofs.Common.{◌≡◌, ℕ, ◌+◌, ◌-◌, ◌<◌, ◌≤◌, suc, zero, inl, inr, List, [], ◌∷◌, ◌++◌, length, slice_get, Some, ap, subst}
use Rattle.std.proofs.Common.{length-append, arith}
use Rattle.std.proofs.lemmas.Bool.{cases_lt}
use Rattle.std.proofs.lemmas.Option.{same_Some, none-some, slice_get_within}
use Rattle.tpoint.specs.Faults.{IsLater, MayFollow}
use Rattle.tpoint.specs.Moving.{Sequence, IsValid, Rises, InBounds}
use Rattle.tpoint.specs.Places.{EachAt}
use Rattle.tpoint.specs.declared.point.Point.{Point}

-- what stands before the end stood there
pub kept_at : {A : Type 0} → (xs : List A) (y x : A) (k : ℕ) → k < length xs → slice_get (xs ++ y ∷ []) k ≡ Some x → slice_get xs k ≡ Some x
kept_at [] y x k h e = absurd (omega arith)
kept_at (z ∷ xs) y x zero h e = e
kept_at (z ∷ xs) y x (suc k) h e = kept_at xs y x k (omega arith) e

-- what stands after that is the new one
pub added_at : {A : Type 0} → (xs : List A) (y x : A) (k : ℕ) → length xs ≤ k → slice_get (xs ++ y ∷ []) k ≡ Some x → y ≡ x
added_at [] y x zero h e = same_Some y x e
added_at [] y x (suc k) h e = absurd (none-some x e)
added_at (z ∷ xs) y x zero h e = absurd (omega arith)
added_at (z ∷ xs) y x (suc k) h e = added_at xs y x k (omega arith) e

each_more : {A : Type 0} → (xs : List A) (y : A) (P : A → Type 0) → ((k : ℕ) → EachAt xs P k) → P y → (k : ℕ) → EachAt (xs ++ y ∷ []) P k
each_more {A} xs y P all p k x e =
    elim (cases_lt k (length xs)) [
      | inl h ↦ all k x (kept_at xs y x k h e)
      | inr h ↦ subst P (added_at xs y x k h e) p
    ]

rises_more : (ps : List Point) (p : Point) → ((k : ℕ) → Rises ps k) → IsLater ps p → (k : ℕ) → Rises (ps ++ p ∷ []) k
rises_more ps p rise later k a b e f =
    elim (cases_lt (k + 1) (length ps)) [
      | inl h ↦ rise k a b (kept_at ps p a k (omega arith) e) (kept_at ps p b (k + 1) h f)
      | inr h ↦
          let within : k + 1 < length ps + 1 = omega (arith, slice_get_within (ps ++ p ∷ []) (k + 1) b f, length-append ps (p ∷ [])) in
          let at_last : slice_get ps (length ps - 1) ≡ Some a = subst (λ (j : ℕ). slice_get ps j ≡ Some a) (omega arith)
          (kept_at ps p a k (omega arith) e) in
          let new : p ≡ b = added_at ps p b (k + 1) h f in
          omega (arith, later.after_last a at_last, ap (λ (q : Point). q.t) new)
    ]

pub appended_valid : (s : Sequence) (p : Point) → IsValid s → MayFollow s.points p → IsValid (record s { points = s.points ++ p ∷ [] })
appended_valid s p v h =
    record {
      not_empty = omega (arith, length-append s.points (p ∷ []));
      not_too_many = omega (arith, h.room, length-append s.points (p ∷ []));
      increasing = rises_more s.points p v.increasing h.later;
      in_range = each_more s.points p InBounds v.in_range h.in_bounds;
    }
