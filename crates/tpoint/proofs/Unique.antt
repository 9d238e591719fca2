-- A sequence has at most one value at an instant.
use Rattle.std.proofs.Common.{◌≡◌, ℕ, ◌+◌, ◌-◌, ◌≤◌, ◌<◌, ℤ, pos, ◌+ℤ◌, ◌*ℤ◌, ◌-ℤ◌, ◌↔◌, inl, inr, List, map, length, slice_get}
use Rattle.std.proofs.Common.{get_or, Some, ap, sym, subst, ◌∙◌, arith}
use Rattle.std.proofs.lemmas.Int.{ints}
use Rattle.std.proofs.lemmas.Bool.{cases_lt}
use Rattle.std.proofs.lemmas.List.{length-map}
use Rattle.std.proofs.lemmas.Option.{same_Some, slice_get_within, slice_get-get_or}
use Rattle.tpoint.proofs.Polynomials.{int, nat, ◌⊕◌, ◌⊝◌, ◌⊛◌, eq_parts, eq_from}
use Rattle.tpoint.proofs.Fractions.{≤ᶠ_of_≈, ≈_sym, ≈_trans, ≤ᶠ_trans, ≈_from_≤ᶠ, moment_le, <ᶠ_of_≤ᶠ_not}
use Rattle.tpoint.proofs.PieceLemmas.{unmap, rises_le, leg_to}
use Rattle.tpoint.proofs.SubLegs.{OnLine, line_value, line_from, line_to, leg_reaches}
use Rattle.tpoint.specs.Fraction.{Fraction, ◌≈◌, ◌≤ᶠ◌, whole}
use Rattle.tpoint.specs.Moving.{Position, Vertex, IsPositionOf, OnLeg, BetweenNeighbours, AtListed, AtStep, HasValue, Sequence, At, IsValid}
use Rattle.tpoint.specs.Moving.{Rises, moment, vertex}
use Rattle.tpoint.specs.Pieces.{place, AtPoint, OnPiece}
use Rattle.tpoint.specs.declared.point.Point.{Point}
use Rattle.tpoint.specs.declared.interp.Interp.{Interp}
use Rattle.tpoint.specs.declared.interp.Interp.TheVariants.{Discrete, Step, Linear}

-- ---- a leg's values at its ends, and that there is one at each instant
-- where the line is at x at the instant s, so is each of its values then
line_at : (x0 k x : ℤ) (t0 D s : ℕ) (v t : Fraction) → 1 ≤ D → t ≈ moment s → x0 *ℤ pos D +ℤ k *ℤ (pos s -ℤ pos t0) ≡ x *ℤ pos D →
    OnLine x0 k t0 D v.num v.den t.num t.den ↔ (v ≈ whole x)
line_at x0 k x t0 D s v t h e there =
    let d = nat t.den in
    let X = int x0 in
    let K = int k in
    let n : t.num ≡ pos s *ℤ pos t.den = omega (arith, ints, e.cross) in
    let f = eq_parts (K ⊛ int t.num) (K ⊛ (nat s ⊛ d)) (ap (λ (z : ℤ). k *ℤ z) n) in
    let g = eq_parts ((X ⊛ nat D ⊕ K ⊛ (nat s ⊝ nat t0)) ⊛ d) (int x ⊛ nat D ⊛ d) (ap (λ (z : ℤ). z *ℤ pos t.den) there) in
    let same : line_value x0 k t0 D h t ≈ whole x =
    record {
      cross =
          eq_from ((X ⊛ (nat D ⊛ d) ⊕ K ⊛ (int t.num ⊝ nat t0 ⊛ d)) ⊛ nat 1) (int x ⊛ (nat D ⊛ d)) (omega (arith, f, g));
    } in
    (λ o. ≈_trans {b = line_value x0 k t0 D h t} (record { cross = o }) same, λ o. (≈_trans o (≈_sym same)).cross)

end_line : (x0 x1 : ℤ) (t0 D : ℕ) (v t : Fraction) → 1 ≤ D → t ≈ moment (t0 + D) →
    OnLine x0 (x1 -ℤ x0) t0 D v.num v.den t.num t.den ↔ (v ≈ whole x1)
end_line x0 x1 t0 D v t h e =
    line_at x0 (x1 -ℤ x0) x1 t0 D (t0 + D) v t h e
    (eq_from (int x0 ⊛ nat D ⊕ (int x1 ⊝ int x0) ⊛ (nat (t0 + D) ⊝ nat t0)) (int x1 ⊛ nat D) (omega arith))

begin_line : (x0 x1 : ℤ) (t0 D : ℕ) (v t : Fraction) → 1 ≤ D → t ≈ moment t0 →
    OnLine x0 (x1 -ℤ x0) t0 D v.num v.den t.num t.den ↔ (v ≈ whole x0)
begin_line x0 x1 t0 D v t h e =
    line_at x0 (x1 -ℤ x0) x0 t0 D t0 v t h e
    (eq_from (int x0 ⊛ nat D ⊕ (int x1 ⊝ int x0) ⊛ (nat t0 ⊝ nat t0)) (int x0 ⊛ nat D) (omega arith))

same_line : (x0 k : ℤ) (t0 D : ℕ) (v w t : Fraction) → 1 ≤ D → OnLine x0 k t0 D v.num v.den t.num t.den →
    OnLine x0 k t0 D w.num w.den t.num t.den → v ≈ w
same_line x0 k t0 D v w t h p q = ≈_trans {b = line_value x0 k t0 D h t} (record { cross = p }) (≈_sym (record { cross = q }))

-- ---- the same for legs between points
sum_of : (a b : Point) → a.t < b.t → b.t ≡ a.t + (b.t - a.t)
sum_of a b h = omega arith

line_of_leg : (a b : Point) (D : ℕ) (t : Fraction) (v : Position) → b.t ≡ a.t + D → OnLeg (vertex a) (vertex b) t v →
    OnLine a.x (b.x -ℤ a.x) a.t D v.x.num v.x.den t.num t.den × OnLine a.y (b.y -ℤ a.y) a.t D v.y.num v.y.den t.num t.den
line_of_leg a b D t v e l = (line_from a.x b.x a.t D v.x t (rw e at l.along_x), line_from a.y b.y a.t D v.y t (rw e at l.along_y))

leg_unique_by : (a b : Point) (D : ℕ) (t : Fraction) (v w : Position) → 1 ≤ D → b.t ≡ a.t + D → OnLeg (vertex a) (vertex b) t v →
    OnLeg (vertex a) (vertex b) t w → IsPositionOf v w
leg_unique_by a b D t v w h e l m =
    let p = line_of_leg a b D t v e l in
    let q = line_of_leg a b D t w e m in
    record { same_x = same_line a.x (b.x -ℤ a.x) a.t D v.x w.x t h p.0 q.0; same_y = same_line a.y (b.y -ℤ a.y) a.t D v.y w.y t h p.1 q.1 }

pub leg_unique : (a b : Point) (t : Fraction) (v w : Position) → a.t < b.t → OnLeg (vertex a) (vertex b) t v →
    OnLeg (vertex a) (vertex b) t w → IsPositionOf v w
leg_unique a b t v w h l m = leg_unique_by a b (b.t - a.t) t v w (omega arith) (omega arith) l m

leg_end_by : (a b : Point) (D : ℕ) (t : Fraction) (v : Position) → 1 ≤ D → b.t ≡ a.t + D → t ≈ moment b.t →
    OnLeg (vertex a) (vertex b) t v → IsPositionOf v (place b)
leg_end_by a b D t v h e f l =
    let p = line_of_leg a b D t v e l in
    let g : t ≈ moment (a.t + D) = rw e at f in
    record { same_x = (end_line a.x b.x a.t D v.x t h g).0 p.0; same_y = (end_line a.y b.y a.t D v.y t h g).0 p.1 }

pub leg_end : (a b : Point) (t : Fraction) (v : Position) → a.t < b.t → t ≈ moment b.t → OnLeg (vertex a) (vertex b) t v →
    IsPositionOf v (place b)
leg_end a b t v h f l = leg_end_by a b (b.t - a.t) t v (omega arith) (omega arith) f l

leg_begin_by : (a b : Point) (D : ℕ) (t : Fraction) (v : Position) → 1 ≤ D → b.t ≡ a.t + D → t ≈ moment a.t →
    OnLeg (vertex a) (vertex b) t v → IsPositionOf v (place a)
leg_begin_by a b D t v h e f l =
    let p = line_of_leg a b D t v e l in
    record { same_x = (begin_line a.x b.x a.t D v.x t h f).0 p.0; same_y = (begin_line a.y b.y a.t D v.y t h f).0 p.1 }

pub leg_begin : (a b : Point) (t : Fraction) (v : Position) → a.t < b.t → t ≈ moment a.t → OnLeg (vertex a) (vertex b) t v →
    IsPositionOf v (place a)
leg_begin a b t v h f l = leg_begin_by a b (b.t - a.t) t v (omega arith) (omega arith) f l

-- ---- positions
pub same_sym : {v w : Position} → IsPositionOf v w → IsPositionOf w v
same_sym e = record { same_x = ≈_sym e.same_x; same_y = ≈_sym e.same_y }

pub same_trans : {u v w : Position} → IsPositionOf u v → IsPositionOf v w → IsPositionOf u w
same_trans e f = record { same_x = ≈_trans e.same_x f.same_x; same_y = ≈_trans e.same_y f.same_y }

-- ---- for one piece after another, v at i and w at j with i < j
-- a point of the list, for each of its vertices
of_vertex : (ps : List Point) (i : ℕ) (w : Vertex) → slice_get (map vertex ps) i ≡ Some w →
    (p : Point) × (slice_get ps i ≡ Some p) × (vertex p ≡ w)
of_vertex ps i w e = unmap ps i w e

next_of : (ps : List Point) (i : ℕ) (d : Point) → i + 1 < length ps → (m : Point) × (slice_get ps (i + 1) ≡ Some m)
next_of ps i d h = (get_or ps (i + 1) d, slice_get-get_or ps (i + 1) d h)

strictly : (ps : List Point) → ((k : ℕ) → Rises ps k) → (i j : ℕ) (p q : Point) → i < j → slice_get ps i ≡ Some p →
    slice_get ps j ≡ Some q → p.t < q.t
strictly ps rise i j p q h a b =
    let m = next_of ps i q (omega (arith, slice_get_within ps j q b)) in
    omega (arith, rise i p m.0 a m.1, rises_le ps rise (i + 1) j m.0 q (omega arith) m.1 b)

clash : (p q : Point) (t : Fraction) → p.t < q.t → moment q.t ≤ᶠ t → t ≤ᶠ moment p.t → ⊥
clash p q t h a b = let k = (moment_le q.t p.t).1 (≤ᶠ_trans a b) in omega arith

record ListedPoint (ps : List Point) (i : ℕ) (t : Fraction) (v : Position) : Type 0 where
  point : Point
  listed : slice_get ps i ≡ Some point
  at : AtPoint point t v

listed_point : (ps : List Point) (i : ℕ) (t : Fraction) (v : Position) → AtListed (map vertex ps) i t v → ListedPoint ps i t v
listed_point ps i t v h =
    let f = unmap ps i h.point h.listed in
    let P : Vertex → Type 0 = λ w. (t ≈ moment w.time) × IsPositionOf v w.place in
    let r = subst P (sym f.2) (h.then, h.there) in
    record { point = f.0; listed = f.1; at = record { then = r.0; there = r.1 } }

pub record LegPoints (ps : List Point) (i : ℕ) (t : Fraction) (v : Position) : Type 0 where
  pub a : Point
  pub b : Point
  pub a_listed : slice_get ps i ≡ Some a
  pub b_listed : slice_get ps (i + 1) ≡ Some b
  pub on : OnLeg (vertex a) (vertex b) t v

pub leg_points : (ps : List Point) (i : ℕ) (t : Fraction) (v : Position) → BetweenNeighbours (map vertex ps) i t v → LegPoints ps i t v
leg_points ps i t v h =
    let f = unmap ps i h.point h.listed in
    let g = unmap ps (i + 1) h.next h.next_listed in
    let P : Vertex → Type 0 = λ w. OnLeg w h.next t v in
    let Q : Vertex → Type 0 = λ w. OnLeg (vertex f.0) w t v in
    record { a = f.0; b = g.0; a_listed = f.1; b_listed = g.1; on = subst Q (sym g.2) (subst P (sym f.2) h.between) }

-- at one place
here_listed : (ps : List Point) (i : ℕ) (t : Fraction) (v w : Position) → AtListed (map vertex ps) i t v → AtListed (map vertex ps) i t w →
    IsPositionOf v w
here_listed ps i t v w h k =
    let P : Vertex → Type 0 = λ x. IsPositionOf v x.place in
    same_trans (subst P (same_Some h.point k.point (sym h.listed ∙ k.listed)) h.there) (same_sym k.there)

here_step : (ps : List Point) (i : ℕ) (t : Fraction) (v w : Position) → AtStep (map vertex ps) i t v → AtStep (map vertex ps) i t w →
    IsPositionOf v w
here_step ps i t v w h k =
    let P : Vertex → Type 0 = λ x. IsPositionOf v x.place in
    same_trans (subst P (same_Some h.point k.point (sym h.listed ∙ k.listed)) h.there) (same_sym k.there)

here_leg : (ps : List Point) → ((k : ℕ) → Rises ps k) → (i : ℕ) (t : Fraction) (v w : Position) → BetweenNeighbours (map vertex ps) i t v →
    BetweenNeighbours (map vertex ps) i t w → IsPositionOf v w
here_leg ps rise i t v w h k =
    let p = leg_points ps i t v h in
    let q = leg_points ps i t w k in
    let ea = same_Some q.a p.a (sym q.a_listed ∙ p.a_listed) in
    let eb = same_Some q.b p.b (sym q.b_listed ∙ p.b_listed) in
    let P : Point → Type 0 = λ x. OnLeg (vertex x) (vertex q.b) t w in
    let Q : Point → Type 0 = λ x. OnLeg (vertex p.a) (vertex x) t w in
    leg_unique p.a p.b t v w (rise i p.a p.b p.a_listed p.b_listed) p.on (subst Q eb (subst P ea q.on))

-- at one place and a later one
apart_listed : (ps : List Point) → ((k : ℕ) → Rises ps k) → (i j : ℕ) (t : Fraction) (v w : Position) → i < j →
    AtListed (map vertex ps) i t v → AtListed (map vertex ps) j t w → ⊥
apart_listed ps rise i j t v w l h k =
    let p = listed_point ps i t v h in
    let q = listed_point ps j t w k in
    clash p.point q.point t (strictly ps rise i j p.point q.point l p.listed q.listed) (≤ᶠ_of_≈ (≈_sym q.at.then)) (≤ᶠ_of_≈ p.at.then)

apart_step : (ps : List Point) (i j : ℕ) (t : Fraction) (v w : Position) → i < j → AtStep (map vertex ps) i t v →
    AtStep (map vertex ps) j t w → ⊥
apart_step ps i j t v w l h k = <ᶠ_of_≤ᶠ_not t (moment k.point.time) (h.not_left j k.point l k.listed) k.reached

meet_legs : (ps : List Point) → ((k : ℕ) → Rises ps k) → (i j : ℕ) (t : Fraction) (v w : Position) → i < j →
    BetweenNeighbours (map vertex ps) i t v → BetweenNeighbours (map vertex ps) j t w → IsPositionOf v w
meet_legs ps rise i j t v w l h k =
    let p = leg_points ps i t v h in
    let q = leg_points ps j t w k in
    elim (cases_lt (i + 1) j) [
      | inl s ↦ absurd (clash p.b q.a t (strictly ps rise (i + 1) j p.b q.a s p.b_listed q.a_listed) q.on.begun p.on.not_over)
      | inr s ↦
          let e : i + 1 ≡ j = omega arith in
          let at : slice_get ps (i + 1) ≡ Some q.a = subst (λ (n : ℕ). slice_get ps n ≡ Some q.a) (sym e) q.a_listed in
          let same = same_Some p.b q.a (sym p.b_listed ∙ at) in
          let P : Point → Type 0 = λ x. (t ≤ᶠ moment x.t) × (t ≈ moment x.t → IsPositionOf v (place x)) in
          let r = subst P same (p.on.not_over, λ f. leg_end p.a p.b t v (rise i p.a p.b p.a_listed p.b_listed) f p.on) in
          let here = ≈_from_≤ᶠ r.0 q.on.begun in
          same_trans (r.1 here) (same_sym (leg_begin q.a q.b t w (rise j q.a q.b q.a_listed q.b_listed) here q.on))
    ]

-- cases on two places
by_places : (P : Type 0) (i j : ℕ) → (i < j → P) → (i ≡ j → P) → (j < i → P) → P
by_places P i j f g h = elim (cases_lt i j) [ inl l ↦ f l | inr l ↦ elim (cases_lt j i) [ inl m ↦ h m | inr m ↦ g (omega arith) ] ]

unique_listed : (ps : List Point) → ((k : ℕ) → Rises ps k) → (i j : ℕ) (t : Fraction) (v w : Position) → AtListed (map vertex ps) i t v →
    AtListed (map vertex ps) j t w → IsPositionOf v w
unique_listed ps rise i j t v w h k =
    by_places (IsPositionOf v w) i j
    (λ l. absurd (apart_listed ps rise i j t v w l h k))
    (λ e. here_listed ps i t v w h (subst (λ (n : ℕ). AtListed (map vertex ps) n t w) (sym e) k))
    (λ l. absurd (apart_listed ps rise j i t w v l k h))

unique : (interp : Interp) (ps : List Point) → ((k : ℕ) → Rises ps k) → (i j : ℕ) (t : Fraction) (v w : Position) → OnPiece interp ps i t v →
    OnPiece interp ps j t w → IsPositionOf v w
unique Discrete ps rise i j t v w h k = unique_listed ps rise i j t v w h k
unique Step ps rise i j t v w h k =
    by_places (IsPositionOf v w) i j
    (λ l. absurd (apart_step ps i j t v w l h k))
    (λ e. here_step ps i t v w h (subst (λ (n : ℕ). AtStep (map vertex ps) n t w) (sym e) k))
    (λ l. absurd (apart_step ps j i t w v l k h))
unique Linear ps rise i j t v w (inl h) (inl k) =
    by_places (IsPositionOf v w) i j
    (λ l. meet_legs ps rise i j t v w l h k)
    (λ e. here_leg ps rise i t v w h (subst (λ (n : ℕ). BetweenNeighbours (map vertex ps) n t w) (sym e) k))
    (λ l. same_sym (meet_legs ps rise j i t w v l k h))
unique Linear ps rise i j t v w (inl h) (inr k) = absurd (let p =
    leg_points ps i t v h in omega (arith, k.0, length-map ps vertex, slice_get_within ps (i + 1) p.b p.b_listed))
unique Linear ps rise i j t v w (inr h) (inl k) = absurd (let p =
    leg_points ps j t w k in omega (arith, h.0, length-map ps vertex, slice_get_within ps (j + 1) p.b p.b_listed))
unique Linear ps rise i j t v w (inr h) (inr k) = unique_listed ps rise i j t v w h.1 k.1

pub at_unique : (s : Sequence) → IsValid s → (t : Fraction) (v w : Position) → At s t v → At s t w → IsPositionOf v w
at_unique s valid t v w h k = unique s.interp s.points valid.increasing h.i k.i t v w h.at_i k.at_i

-- ---- the values of a list of points on one of its legs are that leg's
line_same : (x0 k : ℤ) (t0 D : ℕ) (v w t : Fraction) → 1 ≤ D → v ≈ w → OnLine x0 k t0 D w.num w.den t.num t.den →
    OnLine x0 k t0 D v.num v.den t.num t.den
line_same x0 k t0 D v w t h e q = (≈_trans {c = line_value x0 k t0 D h t} e (record { cross = q })).cross

leg_same_by : (a b : Point) (D : ℕ) (t : Fraction) (v w : Position) → 1 ≤ D → b.t ≡ a.t + D → IsPositionOf v w →
    OnLeg (vertex a) (vertex b) t w → OnLeg (vertex a) (vertex b) t v
leg_same_by a b D t v w h e same l =
    let q = line_of_leg a b D t w e l in
    record {
      begun = l.begun;
      not_over = l.not_over;
      along_x = rw e (line_to a.x b.x a.t D v.x t (line_same a.x (b.x -ℤ a.x) a.t D v.x w.x t h same.same_x q.0));
      along_y = rw e (line_to a.y b.y a.t D v.y t (line_same a.y (b.y -ℤ a.y) a.t D v.y w.y t h same.same_y q.1));
    }

pub leg_same : (a b : Point) (t : Fraction) (v w : Position) → a.t < b.t → IsPositionOf v w → OnLeg (vertex a) (vertex b) t w →
    OnLeg (vertex a) (vertex b) t v
leg_same a b t v w h same l = leg_same_by a b (b.t - a.t) t v w (omega arith) (omega arith) same l

pub leg_local : (ps : List Point) → ((k : ℕ) → Rises ps k) → (i : ℕ) (a b : Point) → slice_get ps i ≡ Some a →
    slice_get ps (i + 1) ≡ Some b → (t : Fraction) (v : Position) → moment a.t ≤ᶠ t → t ≤ᶠ moment b.t →
    HasValue Linear (map vertex ps) t v → OnLeg (vertex a) (vertex b) t v
leg_local ps rise i a b ea eb t v from to h =
    let order = rise i a b ea eb in
    let w = leg_reaches a b t order from to in
    leg_same a b t v w.0 order (unique Linear ps rise h.i i t v w.0 h.at_i (leg_to ps i a b ea eb t w.0 w.1)) w.1
