-- The values of a leg, by a parameter from 0 to 1.
use Rattle.std.proofs.Common.{◌≡◌, ℕ, ◌+◌, ◌*◌, ◌-◌, ◌≤◌, ◌<◌, ℤ, pos, ◌*ℤ◌, ◌-ℤ◌, arith}
use Rattle.std.proofs.Math.Nat.{mul-le-mul_right}
use Rattle.tpoint.proofs.Polynomials.{int, nat, ◌⊕◌, ◌⊝◌, ◌⊛◌, le_parts, le_from, eq_from}
use Rattle.tpoint.specs.Fraction.{Fraction, ◌≈◌, ◌≤ᶠ◌, whole, one_le-mul}
use Rattle.tpoint.specs.Moving.{Position, moment, InProportion, OnLeg, vertex}
use Rattle.tpoint.specs.declared.point.Point.{Point}
use Rattle.tpoint.proofs.SubLegs.{line_from, line_to}
use Rattle.tpoint.specs.Ways.{way}

-- t and v are the leg's instant and value at the parameter u
pub record Placed (a b : Point) (u t : Fraction) (v : Position) : Type 0 where
  pub from : whole (pos 0) ≤ᶠ u
  pub to : u ≤ᶠ whole (pos 1)
  pub time : t ≈ way (pos a.t) (pos b.t) u
  pub across : v.x ≈ way a.x b.x u
  pub along : v.y ≈ way a.y b.y u

-- the parameter of an instant: (t - t0) / D
abbrev pub parameter : ℕ → (D : ℕ) → 1 ≤ D → Fraction → Fraction
parameter t0 D h t =
    record {
      num = t.num -ℤ pos t0 *ℤ pos t.den;
      den = D * t.den;
      at_least_one = one_le-mul D t.den h t.at_least_one;
    }

-- ---- from an instant and a value to the parameter
time_at : (t0 D : ℕ) (h : 1 ≤ D) (t : Fraction) → t ≈ way (pos t0) (pos (t0 + D)) (parameter t0 D h t)
time_at t0 D h t =
    let N = int t.num in
    let d = nat t.den in
    let e = nat D ⊛ d in
    let A = nat t0 in
    record { cross = eq_from (N ⊛ e) ((A ⊛ e ⊕ (nat (t0 + D) ⊝ A) ⊛ (N ⊝ A ⊛ d)) ⊛ d) (omega arith) }

value_at : (v : Fraction) (x0 x1 : ℤ) (t0 D : ℕ) (h : 1 ≤ D) (t : Fraction) →
    InProportion v (whole x0) (whole x1) t (moment t0) (moment (t0 + D)) → v ≈ way x0 x1 (parameter t0 D h t)
value_at v x0 x1 t0 D h t p = record { cross = line_from x0 x1 t0 D v t p }

unit_at : (t0 D : ℕ) (h : 1 ≤ D) (t : Fraction) → moment t0 ≤ᶠ t → t ≤ᶠ moment (t0 + D) →
    (whole (pos 0) ≤ᶠ parameter t0 D h t) × (parameter t0 D h t ≤ᶠ whole (pos 1))
unit_at t0 D h t p q =
    let N = int t.num in
    let d = nat t.den in
    let e = nat D ⊛ d in
    let A = nat t0 in
    let from = le_parts (A ⊛ d) (N ⊛ nat 1) p.cross in
    let to = le_parts (N ⊛ nat 1) (nat (t0 + D) ⊛ d) q.cross in (
      record { cross = le_from (nat 0 ⊛ e) ((N ⊝ A ⊛ d) ⊛ nat 1) (omega (arith, from)) },
      record { cross = le_from ((N ⊝ A ⊛ d) ⊛ nat 1) (nat 1 ⊛ e) (omega (arith, to)) },
    )

-- ---- from the parameter to the instant and the value
begun_at : (t0 D : ℕ) (u : Fraction) → whole (pos 0) ≤ᶠ u → moment t0 ≤ᶠ way (pos t0) (pos (t0 + D)) u
begun_at t0 D u p =
    let n = int u.num in
    let d = nat u.den in
    let A = nat t0 in
    record {
      cross = le_from (A ⊛ d) ((A ⊛ d ⊕ (nat (t0 + D) ⊝ A) ⊛ n) ⊛ nat 1)
          (omega (arith, mul-le-mul_right D (le_parts (nat 0 ⊛ d) (n ⊛ nat 1) p.cross)));
    }

not_over_at : (t0 D : ℕ) (u : Fraction) → u ≤ᶠ whole (pos 1) → way (pos t0) (pos (t0 + D)) u ≤ᶠ moment (t0 + D)
not_over_at t0 D u p =
    let n = int u.num in
    let d = nat u.den in
    let A = nat t0 in
    record {
      cross = le_from ((A ⊛ d ⊕ (nat (t0 + D) ⊝ A) ⊛ n) ⊛ nat 1) (nat (t0 + D) ⊛ d)
          (omega (arith, mul-le-mul_right D (le_parts (n ⊛ nat 1) (nat 1 ⊛ d) p.cross)));
    }

in_proportion_at : (x0 x1 : ℤ) (t0 D : ℕ) (u : Fraction) → InProportion (way x0 x1 u) (whole x0) (whole x1) (way (pos t0) (pos (t0 + D)) u)
    (moment t0) (moment (t0 + D))
in_proportion_at x0 x1 t0 D u =
    let X = int x0 in
    -- as one number: written out, the products have too many terms for `omega`
    let rise = int (x1 -ℤ x0) in
    let A = nat t0 in
    let n = int u.num in
    let d = nat u.den in
    let e = nat D ⊛ d in
    line_to x0 x1 t0 D (way x0 x1 u) (way (pos t0) (pos (t0 + D)) u)
    (eq_from ((X ⊛ d ⊕ rise ⊛ n) ⊛ e) ((X ⊛ e ⊕ rise ⊛ ((A ⊛ d ⊕ (nat (t0 + D) ⊝ A) ⊛ n) ⊝ A ⊛ d)) ⊛ d) (omega arith))

-- ---- for a leg
parameter_by : (a b : Point) (D : ℕ) (t : Fraction) (v : Position) → 1 ≤ D → b.t ≡ a.t + D → OnLeg (vertex a) (vertex b) t v →
    (u : Fraction) × Placed a b u t v
parameter_by a b D t v one e on =
    let over : t ≤ᶠ moment (a.t + D) = rw e at on.not_over in
    let unit = unit_at a.t D one t on.begun over in (
      parameter a.t D one t,
      record {
        from = unit.0;
        to = unit.1;
        time = rw e (time_at a.t D one t);
        across = value_at v.x a.x b.x a.t D one t (rw e at on.along_x);
        along = value_at v.y a.y b.y a.t D one t (rw e at on.along_y);
      },
    )

pub leg_parameter : (a b : Point) (t : Fraction) (v : Position) → a.t < b.t → OnLeg (vertex a) (vertex b) t v →
    (u : Fraction) × Placed a b u t v
leg_parameter a b t v h on = parameter_by a b (b.t - a.t) t v (omega arith) (omega arith) on

pub leg_value : (a b : Point) (u : Fraction) → a.t < b.t → whole (pos 0) ≤ᶠ u → u ≤ᶠ whole (pos 1) →
    OnLeg (vertex a) (vertex b) (way (pos a.t) (pos b.t) u) (record { x = way a.x b.x u; y = way a.y b.y u })
leg_value a b u h p q =
    let D = b.t - a.t in
    let e : b.t ≡ a.t + D = omega arith in
    record {
      begun = rw e (begun_at a.t D u p);
      not_over = rw e (not_over_at a.t D u q);
      along_x = rw e (in_proportion_at a.x b.x a.t D u);
      along_y = rw e (in_proportion_at a.y b.y a.t D u);
    }
