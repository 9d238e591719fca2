-- The last listed instant that is not after another one.
use Rattle.std.proofs.Common.{◌≡◌, ℕ, ◌<◌, ◌⊎◌, inl, inr, List, [], ◌∷◌, zero, suc, slice_get, Some, pos, ◌*ℤ◌, refl, subst, arith}
use Rattle.std.proofs.lemmas.Int.{by_lt_z}
use Rattle.std.proofs.lemmas.Option.{same_Some, none-some}
use Rattle.tpoint.specs.Fraction.{Fraction, ◌≤ᶠ◌, ◌<ᶠ◌}
use Rattle.tpoint.specs.Moving.{Vertex, moment}

pub not_after_or_after : (a b : Fraction) → (a ≤ᶠ b) ⊎ (b <ᶠ a)
not_after_or_after a b =
    by_lt_z {P = (a ≤ᶠ b) ⊎ (b <ᶠ a)} (b.num *ℤ pos a.den) (a.num *ℤ pos b.den)
    (λ l. inr (record { cross = l }))
    (λ l. inl (record { cross = l }))

abbrev pub AllAfter : List Vertex → Fraction → Type 0
AllAfter list t = (j : ℕ) (w : Vertex) → slice_get list j ≡ Some w → t <ᶠ moment w.time

-- the vertex at i is the last that is not after t
pub record IsLatest (list : List Vertex) (t : Fraction) (i : ℕ) (w : Vertex) : Type 0 where
  pub listed : slice_get list i ≡ Some w
  pub reached : moment w.time ≤ᶠ t
  pub later : (j : ℕ) (u : Vertex) → i < j → slice_get list j ≡ Some u → t <ᶠ moment u.time

pub record Latest (list : List Vertex) (t : Fraction) : Type 0 where
  pub i : ℕ
  pub w : Vertex
  pub is : IsLatest list t i w

later_in : (x : Vertex) (xs : List Vertex) (t : Fraction) (i : ℕ)
    → ((j : ℕ) (u : Vertex) → i < j → slice_get xs j ≡ Some u → t <ᶠ moment u.time) → (j : ℕ) (u : Vertex) → suc i < j
    → slice_get (x ∷ xs) j ≡ Some u → t <ᶠ moment u.time
later_in x xs t i h zero u l e = absurd (omega arith)
later_in x xs t i h (suc j) u l e = h j u (omega arith) e

first_later : (x : Vertex) (xs : List Vertex) (t : Fraction) → AllAfter xs t → (j : ℕ) (u : Vertex) → zero < j
    → slice_get (x ∷ xs) j ≡ Some u → t <ᶠ moment u.time
first_later x xs t h zero u l e = absurd (omega arith)
first_later x xs t h (suc j) u l e = h j u e

all_after : (x : Vertex) (xs : List Vertex) (t : Fraction) → t <ᶠ moment x.time → AllAfter xs t → AllAfter (x ∷ xs) t
all_after x xs t a h zero u e = let P : Vertex → Type 0 = λ y. t <ᶠ moment y.time in subst P (same_Some x u e) a
all_after x xs t a h (suc j) u e = h j u e

pub latest : (list : List Vertex) (t : Fraction) → Latest list t ⊎ AllAfter list t
latest [] t = inr (λ j w e. absurd (none-some w e))
latest (x ∷ xs) t =
    elim (latest xs t) [
      | inl l ↦
          inl (record {
            i = suc l.i;
            w = l.w;
            is = record { listed = l.is.listed; reached = l.is.reached; later = later_in x xs t l.i l.is.later };
          })
      | inr all ↦
          elim (not_after_or_after (moment x.time) t) [
            | inl h ↦ inl (record { i = zero; w = x; is = record { listed = refl; reached = h; later = first_later x xs t all } })
            | inr h ↦ inr (all_after x xs t h all)
          ]
    ]
