-- Whether two coordinates are between their bounds at one parameter.
use Rattle.std.proofs.Common.{◌≡◌, ℕ, ◌≤◌, ℤ, pos, negsuc, refl, ◌*ℤ◌, ◌-ℤ◌, ◌≤ℤ◌, ◌<ℤ◌, ◌↔◌, inl, inr, arith}
use Rattle.std.proofs.Math.Nat.{mul-le-mul_right}
use Rattle.std.proofs.lemmas.Int.{ints, by_lt_z}
use Rattle.tpoint.proofs.Fractions.{unscale}
use Rattle.tpoint.proofs.Polynomials.{int, nat, ◌⊕◌, ◌⊝◌, ◌⊛◌, le_parts, le_from, eq_from}
use Rattle.tpoint.specs.Fraction.{Fraction, whole}
use Rattle.tpoint.specs.Ways.{way}
use Rattle.tpoint.specs.Extents.{Area, Between}
use Rattle.tpoint.specs.declared.point.Point.{Point}
use Rattle.predicates.specs.Windows.{InLeg}
use Rattle.predicates.specs.Ends.{AreBeyond}
use Rattle.predicates.specs.Courses.{Crosses, IsCourse}
use Rattle.predicates.specs.declared.courses.Course.{Course}
use Rattle.predicates.proofs.Margins.{on_way, same_at_most}

-- ---- the distance gone, forward
pub goes_up : (from to low high g e l : ℤ) (u : Fraction) → g ≡ to -ℤ from → e ≡ low -ℤ from → l ≡ high -ℤ from →
    Between low high (way from to u) ↔ Between e l (way (pos 0) g u)
goes_up from to low high g e l u p q r =
    let X = int from in
    let W = on_way X (int to) u in
    let G = on_way (nat 0) (int to ⊝ X) u in
    let d = nat u.den in
    let enters = same_at_most (whole low) (way from to u) (whole e) (way (pos 0) g u)
    (rw (p, q) (eq_from (W ⊝ int low ⊛ d) (G ⊝ (int low ⊝ X) ⊛ d) (omega arith))) in
    let leaves = same_at_most (way from to u) (whole high) (way (pos 0) g u) (whole l)
    (rw (p, r) (eq_from (int high ⊛ d ⊝ W) ((int high ⊝ X) ⊛ d ⊝ G) (omega arith))) in
    (λ b. record { from = enters.0 b.from; to = leaves.0 b.to }, λ b. record { from = enters.1 b.from; to = leaves.1 b.to })

-- a way back is the way there of the mirrored numbers
between_mirrored : (from to low high : ℤ) (u : Fraction) →
    Between low high (way from to u) ↔ Between (pos 0 -ℤ high) (pos 0 -ℤ low) (way (pos 0 -ℤ from) (pos 0 -ℤ to) u)
between_mirrored from to low high u =
    let W = on_way (int from) (int to) u in
    let M = on_way (nat 0 ⊝ int from) (nat 0 ⊝ int to) u in
    let L = int low ⊛ nat u.den in
    let H = int high ⊛ nat u.den in
    let back = way (pos 0 -ℤ from) (pos 0 -ℤ to) u in
    let below = same_at_most (way from to u) (whole high) (whole (pos 0 -ℤ high)) back
    (eq_from (H ⊝ W) (M ⊝ (nat 0 ⊝ int high) ⊛ nat u.den) (omega arith)) in
    let above = same_at_most (whole low) (way from to u) back (whole (pos 0 -ℤ low))
    (eq_from (W ⊝ L) ((nat 0 ⊝ int low) ⊛ nat u.den ⊝ M) (omega arith)) in
    (λ b. record { from = below.0 b.to; to = above.0 b.from }, λ b. record { from = above.1 b.to; to = below.1 b.from })

-- ---- one enters before the other leaves where both are between their bounds at one parameter
enters_by : (e l : ℤ) (g h : ℕ) (u : Fraction) → Between e l (way (pos 0) (pos g) u) → (m k : ℤ) →
    Between m k (way (pos 0) (pos h) u) → (e *ℤ pos h) ≤ℤ (k *ℤ pos g)
enters_by e l g h u b m k c =
    let E = int e in
    let K = int k in
    let n = int u.num in
    let d = nat u.den in
    let G = (nat 0 ⊛ d ⊕ (nat g ⊝ nat 0) ⊛ n) ⊛ nat 1 in
    let H = (nat 0 ⊛ d ⊕ (nat h ⊝ nat 0) ⊛ n) ⊛ nat 1 in
    let one = mul-le-mul_right h (le_parts (E ⊛ d) G b.from.cross) in
    let two = mul-le-mul_right g (le_parts H (K ⊛ d) c.to.cross) in
    unscale (e *ℤ pos h) (k *ℤ pos g) u.den u.at_least_one
    (le_from ((E ⊛ nat h) ⊛ d) ((K ⊛ nat g) ⊛ d) (omega (arith, one, two)))

-- ---- and a parameter at which both are, where each enters before the other leaves
pub record Both (e l m k g h : ℤ) : Type 0 where
  pub at : Fraction
  pub in_leg : InLeg at
  pub one : Between e l (way (pos 0) g at)
  pub other : Between m k (way (pos 0) h at)

other_way : (e l m k g h : ℤ) → Both m k e l h g → Both e l m k g h
other_way e l m k g h b = record { at = b.at; in_leg = b.in_leg; one = b.other; other = b.one }

-- at the begin, where neither enters after it
from_begin : (e l : ℤ) (g : ℕ) → e ≤ℤ pos 0 → pos 0 ≤ℤ l → Between e l (way (pos 0) (pos g) (whole (pos 0)))
from_begin e l g h k =
    let G = (nat 0 ⊛ nat 1 ⊕ (nat g ⊝ nat 0) ⊛ nat 0) ⊛ nat 1 in
    record {
      from = record { cross = le_from (int e ⊛ nat 1) G (omega (arith, le_parts (int e) (nat 0) h)) };
      to = record { cross = le_from G (int l ⊛ nat 1) (omega (arith, le_parts (nat 0) (int l) k)) };
    }

both_from_begin : (e l m k : ℤ) (g h : ℕ) → e ≤ℤ pos 0 → pos 0 ≤ℤ l → m ≤ℤ pos 0 → pos 0 ≤ℤ k → Both e l m k (pos g) (pos h)
both_from_begin e l m k g h p q r s =
    record {
      at = whole (pos 0);
      in_leg = record { from = record { cross = omega (arith, ints) }; to = record { cross = omega (arith, ints) } };
      one = from_begin e l g p q;
      other = from_begin m k h r s;
    }

-- else where the later of the two enters
abbrev pub entry : (E G : ℕ) → 1 ≤ G → Fraction
entry E G one = record { num = pos E; den = G; at_least_one = one }

own_entry : (l : ℤ) (E G : ℕ) (one : 1 ≤ G) → pos E ≤ℤ l → Between (pos E) l (way (pos 0) (pos G) (entry E G one))
own_entry l E G one h =
    let W = (nat 0 ⊛ nat G ⊕ (nat G ⊝ nat 0) ⊛ nat E) ⊛ nat 1 in
    record {
      from = record { cross = le_from (nat E ⊛ nat G) W (omega arith) };
      to = record { cross = le_from W (int l ⊛ nat G) (omega (arith, mul-le-mul_right G (le_parts (nat E) (int l) h))) };
    }

others_entry : (m k : ℤ) (E G H : ℕ) (one : 1 ≤ G) → (m *ℤ pos G) ≤ℤ (pos E *ℤ pos H) → (pos E *ℤ pos H) ≤ℤ (k *ℤ pos G) →
    Between m k (way (pos 0) (pos H) (entry E G one))
others_entry m k E G H one h j =
    let W = (nat 0 ⊛ nat G ⊕ (nat H ⊝ nat 0) ⊛ nat E) ⊛ nat 1 in
    record {
      from = record { cross = le_from (int m ⊛ nat G) W (omega (arith, le_parts (int m ⊛ nat G) (nat E ⊛ nat H) h)) };
      to = record { cross = le_from W (int k ⊛ nat G) (omega (arith, le_parts (nat E ⊛ nat H) (int k ⊛ nat G) j)) };
    }

both_at_entry : (e l m k : ℤ) (g h : ℕ) → pos 1 ≤ℤ e → e ≤ℤ pos g → e ≤ℤ l → (m *ℤ pos g) ≤ℤ (e *ℤ pos h) →
    (e *ℤ pos h) ≤ℤ (k *ℤ pos g) → Both e l m k (pos g) (pos h)
both_at_entry (pos E) l m k g h one within order p q =
    let size : 1 ≤ g = omega (arith, ints, one, within) in
    record {
      at = entry E g size;
      in_leg = record { from = record { cross = omega (arith, ints) }; to = record { cross = omega (arith, ints, within) } };
      one = own_entry l E g size order;
      other = others_entry m k E g h size p q;
    }
both_at_entry (negsuc E) l m k g h one within order p q = absurd (omega (arith, ints, one))

times_above : (e : ℤ) (h : ℕ) → pos 0 ≤ℤ e → pos 0 ≤ℤ (e *ℤ pos h)
times_above e h p = le_from (nat 0) (int e ⊛ nat h) (omega (arith, mul-le-mul_right h (le_parts (nat 0) (int e) p)))

times_below : (e : ℤ) (h : ℕ) → e ≤ℤ pos 0 → (e *ℤ pos h) ≤ℤ pos 0
times_below e h p = le_from (int e ⊛ nat h) (nat 0) (omega (arith, mul-le-mul_right h (le_parts (int e) (nat 0) p)))

at_least_one : (m x y : ℤ) (g : ℕ) → pos 0 ≤ℤ x → x <ℤ y → y ≡ m *ℤ pos g → pos 1 ≤ℤ m
at_least_one m x y g p q e =
    by_lt_z (pos 0) m (λ h. omega (arith, ints, h)) (λ h. let below = times_below m g h in absurd (omega (arith, ints, p, q, e, below)))

both_somewhere : (e l m k : ℤ) (g h : ℕ) → e ≤ℤ pos g → pos 0 ≤ℤ l → e ≤ℤ l → m ≤ℤ pos h → pos 0 ≤ℤ k → m ≤ℤ k →
    (e *ℤ pos h) ≤ℤ (k *ℤ pos g) → (m *ℤ pos g) ≤ℤ (l *ℤ pos h) → Both e l m k (pos g) (pos h)
both_somewhere e l m k g h within leaves order within' leaves' order' p q =
    by_lt_z (pos 0) e
    (λ up.
    let at_or_above : pos 0 ≤ℤ e = omega (arith, ints, up) in
    by_lt_z (e *ℤ pos h) (m *ℤ pos g)
    (λ later.
    let one = at_least_one m (e *ℤ pos h) (m *ℤ pos g) g (times_above e h at_or_above) later refl in
    other_way e l m k (pos g) (pos h) (both_at_entry m k e l h g one within' order' (omega (arith, ints, later)) q))
    (λ first. both_at_entry e l m k g h (omega (arith, ints, up)) within order first p))
    (λ down.
    by_lt_z (pos 0) m
    (λ up.
    let below = times_below e h down in
    let over = times_above m g (omega (arith, ints, up)) in
    other_way e l m k (pos g) (pos h)
    (both_at_entry m k e l h g (omega (arith, ints, up)) within' order' (omega (arith, ints, below, over)) q))
    (λ low. both_from_begin e l m k g h down leaves low leaves'))

-- ---- for the courses of a leg
pub crossing : (e l m k g h : ℤ) → pos 0 ≤ℤ g → pos 0 ≤ℤ h → e ≤ℤ g → pos 0 ≤ℤ l → e ≤ℤ l → m ≤ℤ h → pos 0 ≤ℤ k → m ≤ℤ k →
    (((e *ℤ h) ≤ℤ (k *ℤ g)) × ((m *ℤ g) ≤ℤ (l *ℤ h))) ↔ Both e l m k g h
crossing e l m k (pos g) (pos h) _ _ a b c x y z = (
  λ t. both_somewhere e l m k g h a b c x y z t.0 t.1,
  λ s. (enters_by e l g h s.at s.one m k s.other, enters_by m k h g s.at s.other e l s.one),
)
crossing e l m k (negsuc g) h p _ a b c x y z = absurd (omega (arith, ints, p))
crossing e l m k (pos g) (negsuc h) _ p a b c x y z = absurd (omega (arith, ints, p))

pub leg_crosses : (a b : Point) (r : Area) (c d : Course) → IsCourse a.x b.x r.x0 r.x1 c → IsCourse a.y b.y r.y0 r.y1 d →
    (((c.enter *ℤ d.length) ≤ℤ (d.leave *ℤ c.length)) × ((d.enter *ℤ c.length) ≤ℤ (c.leave *ℤ d.length))) ↔ Crosses a b r
leg_crosses a b r c d across along =
    let both =
    crossing c.enter c.leave d.enter d.leave c.length d.length across.forward along.forward across.enters across.leaves across.order
    along.enters along.leaves along.order in (
      λ t.
          let s = both.0 t in
          record {
            at = s.at;
            in_leg = s.in_leg;
            inside = record { across = (across.between s.at).1 s.one; along = (along.between s.at).1 s.other };
          },
      λ s.
          both.1
          (record {
            at = s.at;
            in_leg = s.in_leg;
            one = (across.between s.at).0 s.inside.across;
            other = (along.between s.at).0 s.inside.along;
          }),
    )

-- ---- a coordinate's course
reaches_low : (from to low high : ℤ) → from ≤ℤ to → ¬ AreBeyond from to low high → low ≤ℤ to
reaches_low from to low high o n = by_lt_z to low (λ h. absurd (n (inl (omega (arith, ints, h, o), h)))) (λ h. h)

reaches_high : (from to low high : ℤ) → from ≤ℤ to → ¬ AreBeyond from to low high → from ≤ℤ high
reaches_high from to low high o n = by_lt_z high from (λ h. absurd (n (inr (h, omega (arith, ints, h, o))))) (λ h. h)

pub up_course : (from to low high : ℤ) (c : Course) → c.length ≡ to -ℤ from → c.enter ≡ low -ℤ from → c.leave ≡ high -ℤ from →
    from ≤ℤ to → low ≤ℤ high → ¬ AreBeyond from to low high → IsCourse from to low high c
up_course from to low high c p q r o between near =
    let low_reached = reaches_low from to low high o near in
    let high_reached = reaches_high from to low high o near in
    record {
      forward = omega (arith, ints, p, o);
      enters = omega (arith, ints, p, q, low_reached);
      leaves = omega (arith, ints, r, high_reached);
      order = omega (arith, ints, q, r, between);
      between = λ u. goes_up from to low high c.length c.enter c.leave u p q r;
    }

beyond_mirrored : (from to low high : ℤ) → AreBeyond (pos 0 -ℤ from) (pos 0 -ℤ to) (pos 0 -ℤ high) (pos 0 -ℤ low) →
    AreBeyond from to low high
beyond_mirrored from to low high (inl h) = inr (omega (arith, ints, h.0), omega (arith, ints, h.1))
beyond_mirrored from to low high (inr h) = inl (omega (arith, ints, h.0), omega (arith, ints, h.1))

pub down_course : (from to low high : ℤ) (c : Course) → c.length ≡ from -ℤ to → c.enter ≡ from -ℤ high → c.leave ≡ from -ℤ low →
    to ≤ℤ from → low ≤ℤ high → ¬ AreBeyond from to low high → IsCourse from to low high c
down_course from to low high c p q r o between near =
    let up = up_course (pos 0 -ℤ from) (pos 0 -ℤ to) (pos 0 -ℤ high) (pos 0 -ℤ low) c (omega (arith, ints, p)) (omega (arith, ints, q))
    (omega (arith, ints, r)) (omega (arith, ints, o)) (omega (arith, ints, between)) (λ b. near (beyond_mirrored from to low high b)) in
    record {
      forward = up.forward;
      enters = up.enters;
      leaves = up.leaves;
      order = up.order;
      between = λ u.
          let back = between_mirrored from to low high u in
          (λ b. (up.between u).0 (back.0 b), λ b. back.1 ((up.between u).1 b));
    }
