-- The value at an instant, by what the code computes.
use Rattle.std.proofs.Common.{◌≡◌, ℕ, ◌+◌, ◌*◌, ◌<◌, ◌≤◌, ℤ, pos, ◌+ℤ◌, ◌-ℤ◌, ◌*ℤ◌, unsigned_abs, Option, Some, None, MatchOption, IsSome}
use Rattle.std.proofs.Common.{List, map, length, refl, sym, subst, arith}
use Rattle.std.proofs.lemmas.Int.{ints}
use Rattle.std.proofs.Math.Nat.{le_of_dvd}
use borrow.Author.Count.{below_more}
use Rattle.tpoint.proofs.Polynomials.{int, nat, ◌⊕◌, ◌⊝◌, ◌⊛◌, eq_parts, eq_from}
use Rattle.tpoint.proofs.Fractions.{moment_le}
use Rattle.tpoint.proofs.PieceLemmas.{place_within}
use Rattle.tpoint.specs.Fraction.{Fraction, whole}
use Rattle.tpoint.specs.Moving.{Position, Sequence, OnLeg, InProportion, HasValue, At, IsValid, Rises, InBounds, moment, vertex}
use Rattle.tpoint.specs.Places.{EachAt}
use Rattle.tpoint.specs.Pieces.{OnPiece}
use Rattle.tpoint.specs.Lowest.{IsInLowestTerms}
use Rattle.tpoint.specs.Reduced.{fraction, position}
use Rattle.tpoint.specs.declared.point.Point.{Point}
use Rattle.tpoint.specs.declared.interp.Interp.{Interp}
use Rattle.tpoint.specs.declared.frac.Frac.{Frac}

pub lowest_over_one : (n : ℕ) → IsInLowestTerms n 1
lowest_over_one n = record { lowest = λ d p q. le_of_dvd (omega arith) q }

in_proportion : (v : ℤ) (w : ℕ) (x0 x1 : ℤ) (t t0 t1 : ℕ) → v *ℤ (pos t1 -ℤ pos t0) ≡
    (x0 *ℤ (pos t1 -ℤ pos t0) +ℤ (x1 -ℤ x0) *ℤ (pos t -ℤ pos t0)) *ℤ pos w →
    ((v *ℤ pos 1 -ℤ x0 *ℤ pos w) *ℤ (pos t1 *ℤ pos 1 -ℤ pos t0 *ℤ pos 1)) *ℤ pos (1 * 1 * (1 * 1)) ≡
    ((x1 *ℤ pos 1 -ℤ x0 *ℤ pos 1) *ℤ (pos t *ℤ pos 1 -ℤ pos t0 *ℤ pos 1)) *ℤ pos (w * 1 * (1 * 1))
in_proportion v w x0 x1 t t0 t1 e =
    let V = int v in
    let X = int x0 in
    let Y = int x1 in
    let A = nat t0 in
    let B = nat t1 in
    let C = nat t in
    let k = nat w in
    let e' = eq_parts (V ⊛ (B ⊝ A)) ((X ⊛ (B ⊝ A) ⊕ (Y ⊝ X) ⊛ (C ⊝ A)) ⊛ k) e in
    eq_from
    (((V ⊛ nat 1 ⊝ X ⊛ k) ⊛ (B ⊛ nat 1 ⊝ A ⊛ nat 1)) ⊛ nat (1 * 1 * (1 * 1)))
    (((Y ⊛ nat 1 ⊝ X ⊛ nat 1) ⊛ (C ⊛ nat 1 ⊝ A ⊛ nat 1)) ⊛ nat (w * 1 * (1 * 1)))
    (omega (arith, e'))

on_way_holds : (f : Frac) (x0 x1 : ℤ) (t t0 t1 : ℕ) (gone all : ℤ) → gone ≡ pos t -ℤ pos t0 → all ≡ pos t1 -ℤ pos t0 →
    f.num *ℤ all ≡ (x0 *ℤ all +ℤ (x1 -ℤ x0) *ℤ gone) *ℤ f.den → InProportion (fraction f) (whole x0) (whole x1) (moment t) (moment t0)
    (moment t1)
on_way_holds f x0 x1 t t0 t1 gone all eg ea h =
    let den : f.den ≡ pos (unsigned_abs f.den) = omega (arith, ints, f.positive) in
    record { cross = in_proportion f.num (unsigned_abs f.den) x0 x1 t t0 t1 (rw (eg, ea, den) at h) }

pub leg_holds : (a b : Point) (t : ℕ) (gone all : ℤ) (x y : Frac) → a.t ≤ t → t ≤ b.t → gone ≡ pos t -ℤ pos a.t →
    all ≡ pos b.t -ℤ pos a.t → x.num *ℤ all ≡ (a.x *ℤ all +ℤ (b.x -ℤ a.x) *ℤ gone) *ℤ x.den →
    y.num *ℤ all ≡ (a.y *ℤ all +ℤ (b.y -ℤ a.y) *ℤ gone) *ℤ y.den → OnLeg (vertex a) (vertex b) (moment t) (position (x, y))
leg_holds a b t gone all x y from to eg ea hx hy =
    record {
      begun = (moment_le a.t t).0 from;
      not_over = (moment_le t b.t).0 to;
      along_x = on_way_holds x a.x b.x t a.t b.t gone all eg ea hx;
      along_y = on_way_holds y a.y b.y t a.t b.t gone all eg ea hy;
    }

-- the answer for one relation serves another with the same pairs
pub value_same : (R S : Position → Type 0) (o : Option (Frac × Frac)) → ((v : Position) → R v → S v) → ((v : Position) → S v → R v) →
    MatchOption o ((v : Position) → ¬ R v) (λ r. R (position r)) → MatchOption o ((v : Position) → ¬ S v) (λ r. S (position r))
value_same R S None f g h = λ v k. h v (g v k)
value_same R S (Some r) f g h = f (position r) h

-- ---- what a valid sequence keeps, of its points as `points` gives them
pub points_rise : (s : Sequence) (ps : List Point) → IsValid s → ps ≡ s.points → (k : ℕ) → Rises ps k
points_rise s ps valid e = subst (λ (qs : List Point). (k : ℕ) → Rises qs k) (sym e) valid.increasing

pub points_in_range : (s : Sequence) (ps : List Point) → IsValid s → ps ≡ s.points → (k : ℕ) → EachAt ps InBounds k
points_in_range s ps valid e = subst (λ (qs : List Point). (k : ℕ) → EachAt qs InBounds k) (sym e) valid.in_range

-- ---- over all pieces
of_parts : (s : Sequence) (interp : Interp) (ps : List Point) → interp ≡ s.interp → ps ≡ s.points →
    (P : (Fraction → Position → Type 0) → Type 0) → P (HasValue interp (map vertex ps)) → P (At s)
of_parts s interp ps e f P h =
    subst (λ (qs : List Point). P (HasValue s.interp (map vertex qs))) f (subst (λ (k : Interp). P (HasValue k (map vertex ps))) e h)

pub found_at : (s : Sequence) (interp : Interp) (ps : List Point) (i t : ℕ) (o : Option (Frac × Frac)) → interp ≡ s.interp →
    ps ≡ s.points → IsSome o → MatchOption o ((v : Position) → ¬ OnPiece interp ps i (moment t) v)
    (λ r. OnPiece interp ps i (moment t) (position r)) → MatchOption o ((v : Position) → ¬ At s (moment t) v)
    (λ r. At s (moment t) (position r))
found_at s interp ps i t None e f h p = absurd (cc)
found_at s interp ps i t (Some r) e f h p = of_parts s interp ps e f (λ R. R (moment t) (position r)) (record { i = i; at_i = p })

pub missing_more : (interp : Interp) (ps : List Point) (i t : ℕ) (o : Option (Frac × Frac)) → ¬ IsSome o →
    ((j : ℕ) → j < i → (v : Position) → ¬ OnPiece interp ps j (moment t) v) →
    MatchOption o ((v : Position) → ¬ OnPiece interp ps i (moment t) v) (λ r. OnPiece interp ps i (moment t) (position r)) → (j : ℕ) →
    j < i + 1 → (v : Position) → ¬ OnPiece interp ps j (moment t) v
missing_more interp ps i t None n all h = below_more (λ j. (v : Position) → ¬ OnPiece interp ps j (moment t) v) i all h
missing_more interp ps i t (Some r) n all h = absurd (n refl)

pub missing : (s : Sequence) (interp : Interp) (ps : List Point) (t : ℕ) → interp ≡ s.interp → ps ≡ s.points →
    ((j : ℕ) → j < length ps → (v : Position) → ¬ OnPiece interp ps j (moment t) v) → (v : Position) → ¬ At s (moment t) v
missing s interp ps t e f all v h =
    of_parts s interp ps e f (λ R. ¬ R (moment t) v) (λ k. all k.i (place_within interp ps k.i (moment t) v k.at_i) v k.at_i) h
