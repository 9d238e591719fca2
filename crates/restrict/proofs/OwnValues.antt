-- A sequence has each of its points as its value.
use Rattle.std.proofs.Common.{◌≡◌, ℕ, ◌+◌, ◌<◌, inl, inr, zero, suc, List, map, length, slice_get, get_or, Some, subst, arith}
use Rattle.std.proofs.lemmas.Bool.{cases_lt}
use Rattle.std.proofs.lemmas.Option.{slice_get_within, slice_get-get_or}
use Rattle.tpoint.proofs.Fractions.{≈_refl, ≤ᶠ_refl, moment_le, moment_lt}
use Rattle.tpoint.proofs.PieceLemmas.{discrete_to, single_to, last_to, held_to, leg_to}
use Rattle.tpoint.proofs.Unique.{leg_begin, leg_end, leg_same, same_sym}
use Rattle.tpoint.specs.Fraction.{Fraction, ◌≤ᶠ◌}
use Rattle.tpoint.specs.Moving.{Position, IsPositionOf, OnLeg, HasValue, Sequence, At, IsValid, Rises, moment, vertex}
use Rattle.tpoint.specs.Pieces.{place, AtPoint}
use Rattle.tpoint.specs.declared.point.Point.{Point}
use Rattle.tpoint.specs.declared.interp.Interp.{Interp}
use Rattle.tpoint.specs.declared.interp.Interp.TheVariants.{Discrete, Step, Linear}
use Rattle.tpoint.proofs.SubLegs.{leg_reaches}

at_itself : (q : Point) → AtPoint q (moment q.t) (place q)
at_itself q = record { then = ≈_refl (moment q.t); there = record { same_x = ≈_refl (place q).x; same_y = ≈_refl (place q).y } }

-- at an instant of a leg, where each value of the leg is this one
on_leg : (ps : List Point) (i : ℕ) (a b : Point) (t : Fraction) (v : Position) → a.t < b.t → slice_get ps i ≡ Some a
    → slice_get ps (i + 1) ≡ Some b → moment a.t ≤ᶠ t → t ≤ᶠ moment b.t
    → ((w : Position) → OnLeg (vertex a) (vertex b) t w → IsPositionOf w v)
    → HasValue Linear (map vertex ps) t v
on_leg ps i a b t v order e f from to is =
    let w = leg_reaches a b t order from to in
    record { i = i; at_i = leg_to ps i a b e f t v (leg_same a b t v w.0 order (same_sym (is w.0 w.1)) w.1) }

-- at the begin and at the end of a leg
on_ends : (ps : List Point) → ((k : ℕ) → Rises ps k) → (i : ℕ) (a b : Point) → slice_get ps i ≡ Some a → slice_get ps (i + 1) ≡ Some b
    → HasValue Linear (map vertex ps) (moment a.t) (place a) × HasValue Linear (map vertex ps) (moment b.t) (place b)
on_ends ps rise i a b e f =
    let order = rise i a b e f in
    let begins = moment a.t in
    let ends = moment b.t in
    let along = (moment_le a.t b.t).0 (omega (arith, order)) in (
      on_leg ps i a b begins (place a) order e f (≤ᶠ_refl begins) along (λ w on. leg_begin a b begins w order (≈_refl begins) on),
      on_leg ps i a b ends (place b) order e f along (≤ᶠ_refl ends) (λ w on. leg_end a b ends w order (≈_refl ends) on),
    )

-- the last point
last_linear : (ps : List Point) → ((k : ℕ) → Rises ps k) → (i : ℕ) (q : Point) → length ps ≡ i + 1 → slice_get ps i ≡ Some q
    → HasValue Linear (map vertex ps) (moment q.t) (place q)
last_linear ps rise zero q len e = record { i = zero; at_i = single_to ps zero q len e (moment q.t) (place q) (at_itself q) }
last_linear ps rise (suc i) q len e =
    let a = get_or ps i q in
    (on_ends ps rise i a q (slice_get-get_or ps i q (omega arith)) (subst (λ (k : ℕ). slice_get ps k ≡ Some q) (omega arith) e)).1

own : (interp : Interp) (ps : List Point) → ((k : ℕ) → Rises ps k) → (i : ℕ) (q : Point) → slice_get ps i ≡ Some q
    → HasValue interp (map vertex ps) (moment q.t) (place q)
own Discrete ps rise i q e = record { i = i; at_i = discrete_to ps i q e (moment q.t) (place q) (at_itself q) }
own Step ps rise i q e =
    elim (cases_lt (i + 1) (length ps)) [
      | inl more ↦
          let b = get_or ps (i + 1) q in
          let f : slice_get ps (i + 1) ≡ Some b = slice_get-get_or ps (i + 1) q more in
          record {
            i = i;
            at_i = held_to ps rise i q b e f (moment q.t) (place q) (record {
              reached = (moment_le q.t q.t).0 (omega arith);
              not_left = (moment_lt q.t b.t).0 (rise i q b e f);
              there = (at_itself q).there;
            });
          }
      | inr over ↦ record { i = i; at_i = last_to ps i q over e (moment q.t) (place q) (at_itself q) }
    ]
own Linear ps rise i q e =
    elim (cases_lt (i + 1) (length ps)) [
      | inl more ↦ (on_ends ps rise i q (get_or ps (i + 1) q) e (slice_get-get_or ps (i + 1) q more)).0
      | inr over ↦ last_linear ps rise i q (omega (arith, slice_get_within ps i q e)) e
    ]

pub own_value : (s : Sequence) → IsValid s → (i : ℕ) (q : Point) → slice_get s.points i ≡ Some q → At s (moment q.t) (place q)
own_value s valid i q e = own s.interp s.points valid.increasing i q e
