-- The part of a leg between two of its values.
use Rattle.std.proofs.Common.{◌≡◌, ℕ, ◌+◌, ◌-◌, ◌<◌, ◌≤◌, ◌↔◌, List, slice_get, Some, arith}
use Rattle.tpoint.proofs.Fractions.{≤ᶠ_trans}
use Rattle.tpoint.proofs.SubLegs.{sub_leg}
use Rattle.tpoint.specs.Fraction.{Fraction, ◌≤ᶠ◌}
use Rattle.tpoint.specs.Moving.{Position, Vertex, Rises, OnLeg, moment, vertex}
use Rattle.tpoint.specs.declared.point.Point.{Point}

-- a part of a leg, between two of its values
pub part_of_leg : (a b : Point) (D E : ℕ) (p q : Vertex) → 1 ≤ D → 1 ≤ E → b.t ≡ a.t + D → q.time ≡ p.time + E
    → OnLeg (vertex a) (vertex b) (moment p.time) p.place → OnLeg (vertex a) (vertex b) (moment q.time) q.place
    → (t : Fraction) (v : Position) → OnLeg p q t v ↔ ((moment p.time ≤ᶠ t) × (t ≤ᶠ moment q.time) × OnLeg (vertex a) (vertex b) t v)
part_of_leg a b D E p q hD hE e f l m t v =
    let x = sub_leg a.x b.x a.t D p.time E p.place.x q.place.x hD hE (rw e at l.along_x) (rw (e, f) at m.along_x) v.x t in
    let y = sub_leg a.y b.y a.t D p.time E p.place.y q.place.y hD hE (rw e at l.along_y) (rw (e, f) at m.along_y) v.y t in (
      λ h. (
        h.begun,
        h.not_over,
        record {
          begun = ≤ᶠ_trans l.begun h.begun;
          not_over = ≤ᶠ_trans h.not_over m.not_over;
          along_x = rw e (x.0 (rw f at h.along_x));
          along_y = rw e (y.0 (rw f at h.along_y));
        },
      ),
      λ h.
          record {
            begun = h.0;
            not_over = h.1;
            along_x = rw f (x.1 (rw e at h.2.along_x));
            along_y = rw f (y.1 (rw e at h.2.along_y));
          },
    )

-- w and new are values of leg i, the latter later
pub record Follows (ps : List Point) (i : ℕ) (a b : Point) (w new : Vertex) : Type 0 where
  pub a_listed : slice_get ps i ≡ Some a
  pub b_listed : slice_get ps (i + 1) ≡ Some b
  pub order : w.time < new.time
  pub begin_on : OnLeg (vertex a) (vertex b) (moment w.time) w.place
  pub end_on : OnLeg (vertex a) (vertex b) (moment new.time) new.place

-- has the values of the leg there, and no other
pub part : (ps : List Point) → ((k : ℕ) → Rises ps k) → (i : ℕ) (a b : Point) (w new : Vertex) → Follows ps i a b w new
    → (t : Fraction) (v : Position) → OnLeg w new t v ↔ ((moment w.time ≤ᶠ t) × (t ≤ᶠ moment new.time) × OnLeg (vertex a) (vertex b) t v)
part ps rise i a b w new f t v =
    let order = rise i a b f.a_listed f.b_listed in
    let later = f.order in
    part_of_leg a b (b.t - a.t) (new.time - w.time) w new (omega arith) (omega arith) (omega arith) (omega arith) f.begin_on f.end_on t v
