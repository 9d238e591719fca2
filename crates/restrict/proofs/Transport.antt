-- Equal instants have equal values.
use Rattle.std.proofs.Common.{◌≡◌, ℕ, ◌+◌, ◌-◌, ◌*◌, ◌<◌, ◌≤◌, inl, inr, ℤ, pos, ◌+ℤ◌, ◌*ℤ◌, ◌-ℤ◌, List, map}
use Rattle.std.proofs.Common.{ap, arith}
use Rattle.tpoint.proofs.Polynomials.{int, nat, ◌⊕◌, ◌⊝◌, ◌⊛◌, eq_parts, eq_from}
use Rattle.tpoint.proofs.Fractions.{scale_eq_back, ≤ᶠ_of_≈, ≈_sym, ≈_trans, ≤ᶠ-≈, ≈-≤ᶠ, ≤ᶠ-<ᶠ}
use Rattle.tpoint.proofs.SubLegs.{OnLine, line_from, line_to}
use Rattle.tpoint.proofs.PieceLemmas.{leg_to}
use Rattle.tpoint.proofs.Unique.{leg_points, leg_same, same_trans}
use Rattle.tpoint.specs.Fraction.{Fraction, ◌≈◌}
use Rattle.tpoint.specs.Moving.{Position, IsPositionOf, OnLeg, AtListed, Sequence, At, IsValid, Rises, vertex}
use Rattle.tpoint.specs.Pieces.{OnPiece}
use Rattle.tpoint.specs.declared.point.Point.{Point}
use Rattle.tpoint.specs.declared.interp.Interp.{Interp}
use Rattle.tpoint.specs.declared.interp.Interp.TheVariants.{Discrete, Step, Linear}

-- on a line, n / d may be written as m / e
line_time : (x0 k v n m : ℤ) (t0 D w d e : ℕ) → 1 ≤ d → n *ℤ pos e ≡ m *ℤ pos d → OnLine x0 k t0 D v w n d → OnLine x0 k t0 D v w m e
line_time x0 k v n m t0 D w d e h same on =
    let V = int v in
    let X = int x0 in
    let K = int k in
    let A = nat t0 in
    let f = eq_parts (V ⊛ (nat D ⊛ nat d) ⊛ nat e) ((X ⊛ (nat D ⊛ nat d) ⊕ K ⊛ (int n ⊝ A ⊛ nat d)) ⊛ nat w ⊛ nat e)
    (ap (λ (z : ℤ). z *ℤ pos e) on) in
    let g = eq_parts (K ⊛ nat w ⊛ (int n ⊛ nat e)) (K ⊛ nat w ⊛ (int m ⊛ nat d)) (ap (λ (z : ℤ). k *ℤ pos w *ℤ z) same) in
    scale_eq_back (v *ℤ pos (D * e)) ((x0 *ℤ pos (D * e) +ℤ k *ℤ (m -ℤ pos t0 *ℤ pos e)) *ℤ pos w) d h
    (eq_from (V ⊛ (nat D ⊛ nat e) ⊛ nat d) ((X ⊛ (nat D ⊛ nat e) ⊕ K ⊛ (int m ⊝ A ⊛ nat e)) ⊛ nat w ⊛ nat d) (omega (arith, f, g)))

leg_time_by : (a b : Point) (D : ℕ) (t u : Fraction) (v : Position) → b.t ≡ a.t + D → t ≈ u → OnLeg (vertex a) (vertex b) t v
    → OnLeg (vertex a) (vertex b) u v
leg_time_by a b D t u v e same l =
    record {
      begun = ≤ᶠ-≈ l.begun same;
      not_over = ≈-≤ᶠ (≈_sym same) l.not_over;
      along_x = rw e (line_to a.x b.x a.t D v.x u
          (line_time a.x (b.x -ℤ a.x) v.x.num t.num u.num a.t D v.x.den t.den u.den t.at_least_one same.cross
          (line_from a.x b.x a.t D v.x t (rw e at l.along_x))));
      along_y = rw e (line_to a.y b.y a.t D v.y u
          (line_time a.y (b.y -ℤ a.y) v.y.num t.num u.num a.t D v.y.den t.den u.den t.at_least_one same.cross
          (line_from a.y b.y a.t D v.y t (rw e at l.along_y))));
    }

leg_time : (a b : Point) (t u : Fraction) (v : Position) → a.t < b.t → t ≈ u → OnLeg (vertex a) (vertex b) t v
    → OnLeg (vertex a) (vertex b) u v
leg_time a b t u v h same l = leg_time_by a b (b.t - a.t) t u v (omega arith) same l

listed_time : (ps : List Point) (i : ℕ) (t u : Fraction) (v : Position) → t ≈ u → AtListed (map vertex ps) i t v
    → AtListed (map vertex ps) i u v
listed_time ps i t u v e h = record { point = h.point; listed = h.listed; then = ≈_trans (≈_sym e) h.then; there = h.there }

piece_time : (interp : Interp) (ps : List Point) → ((k : ℕ) → Rises ps k) → (i : ℕ) (t u : Fraction) (v : Position) → t ≈ u
    → OnPiece interp ps i t v → OnPiece interp ps i u v
piece_time Discrete ps rise i t u v e h = listed_time ps i t u v e h
piece_time Step ps rise i t u v e h =
    record {
      point = h.point;
      listed = h.listed;
      reached = ≤ᶠ-≈ h.reached e;
      not_left = λ j w l at. ≤ᶠ-<ᶠ (≤ᶠ_of_≈ (≈_sym e)) (h.not_left j w l at);
      not_over = (h.not_over.0, h.not_over.1, h.not_over.2, ≈-≤ᶠ (≈_sym e) h.not_over.3);
      there = h.there;
    }
piece_time Linear ps rise i t u v e (inl h) =
    let l = leg_points ps i t v h in
    leg_to ps i l.a l.b l.a_listed l.b_listed u v (leg_time l.a l.b t u v (rise i l.a l.b l.a_listed l.b_listed) e l.on)
piece_time Linear ps rise i t u v e (inr h) = inr (h.0, listed_time ps i t u v e h.1)

piece_place : (interp : Interp) (ps : List Point) → ((k : ℕ) → Rises ps k) → (i : ℕ) (t : Fraction) (v w : Position) → IsPositionOf v w
    → OnPiece interp ps i t w → OnPiece interp ps i t v
piece_place Discrete ps rise i t v w e h = record { point = h.point; listed = h.listed; then = h.then; there = same_trans e h.there }
piece_place Step ps rise i t v w e h =
    record {
      there = same_trans e h.there;
      point = h.point;
      listed = h.listed;
      reached = h.reached;
      not_left = h.not_left;
      not_over = h.not_over;
    }
piece_place Linear ps rise i t v w e (inl h) =
    let l = leg_points ps i t w h in
    leg_to ps i l.a l.b l.a_listed l.b_listed t v (leg_same l.a l.b t v w (rise i l.a l.b l.a_listed l.b_listed) e l.on)
piece_place Linear ps rise i t v w e (inr h) =
    inr (h.0, record { point = h.1.point; listed = h.1.listed; then = h.1.then; there = same_trans e h.1.there })

-- a sequence has the same values at an instant however its fraction is written
pub at_time : (s : Sequence) → IsValid s → (t u : Fraction) (v : Position) → t ≈ u → At s t v → At s u v
at_time s valid t u v e h = record { i = h.i; at_i = piece_time s.interp s.points valid.increasing h.i t u v e h.at_i }

-- and however its position is written
pub at_place : (s : Sequence) → IsValid s → (t : Fraction) (v w : Position) → IsPositionOf v w → At s t w → At s t v
at_place s valid t v w e h = record { i = h.i; at_i = piece_place s.interp s.points valid.increasing h.i t v w e h.at_i }
