-- Every value of a sequence lies between the bounds of its listed positions.
use Rattle.std.proofs.Common.{◌≡◌, ℕ, ◌+◌, ◌<◌, ◌⊎◌, inl, inr, List, [], ◌∷◌, ◌++◌}
use mir.Syntax.{w64}
use Rattle.std.proofs.Common.{SFits, length, get_or, slice_get, Some, subst, refl, arith}
use Rattle.std.proofs.lemmas.Bool.{cases_lt, cases_eq}
use Rattle.std.proofs.lemmas.Int.{ints}
use Rattle.std.proofs.lemmas.Option.{slice_get-get_or}
use Rattle.tpoint.specs.Fraction.{Fraction}
use Rattle.tpoint.specs.Moving.{Position, IsPositionOf, Sequence, At, IsValid, Rises, OnLeg, vertex}
use Rattle.tpoint.specs.Places.{EachAt}
use Rattle.tpoint.specs.Pieces.{OnPiece, place}
use Rattle.tpoint.specs.Extents.{Span, Area, IsArea, Inside, HasInstant, Shares, closed}
use Rattle.tpoint.specs.declared.point.Point.{Point}
use Rattle.tpoint.specs.declared.interp.Interp.{Interp}
use Rattle.tpoint.specs.declared.interp.Interp.TheVariants.{Discrete, Step, Linear}
use Rattle.tpoint.proofs.Fractions.{≤ᶠ_trans, ≈_sym, whole_le}
use Rattle.tpoint.proofs.PieceLemmas.{place_within, discrete_from, held_from, last_from, leg_from, single_from, no_leg}
use Rattle.tpoint.proofs.Appending.{kept_at, added_at}
use Rattle.predicates.specs.Predicates.{IsEver, IsAlways}
use Rattle.predicates.specs.declared.questions.Tri.TheVariants.{Yes, No}
use Rattle.predicates.specs.declared.questions.Question.TheVariants.{Always}
use Rattle.predicates.proofs.LegLemmas.{Between-≈}
use Rattle.predicates.proofs.EndLemmas.{settled_leg}
use Rattle.store.specs.Bounds.{Holds, HoldsAll, IsWithin, AreApart, IsApart, IsInside, StaysOutOf, StaysIn}
use Rattle.store.specs.declared.bounds.Bounds.{Bounds}
use Rattle.store.proofs.GaplessLemmas.{listed}

-- ---- on the definitions alone
-- a leg stays in a rectangle that has both of its ends
pub leg_inside : (a b : Point) (r : Area) → a.t < b.t → Inside (place a) r → Inside (place b) r → (t : Fraction) (v : Position) →
    OnLeg (vertex a) (vertex b) t v → Inside v r
leg_inside a b r later x y t v on =
    let p = closed a.t b.t in
    let has : HasInstant p = record { ordered = omega (arith, later); one_instant = λ _. (refl, refl) } in
    let all = settled_leg Always a b p r later has (omega (arith, later)) (omega (arith, later)) (x, y) in
    all.1.inside t v
    (record {
      begun = record { not_after = on.begun; apart = λ e. absurd (cc) };
      not_over = record { not_after = on.not_over; apart = λ e. absurd (cc) };
    })
    on

there_inside : (r : Area) (v w : Position) → IsPositionOf v w → Inside w r → Inside v r
there_inside r v w e i = record { across = Between-≈ (≈_sym e.same_x) i.across; along = Between-≈ (≈_sym e.same_y) i.along }

-- each piece stays in a rectangle that has all listed positions
pub piece_inside : (interp : Interp) (ps : List Point) (r : Area) (i : ℕ) (p : Point) → ((k : ℕ) → Rises ps k) →
    ((k : ℕ) → EachAt ps (λ (q : Point). Inside (place q) r) k) → slice_get ps i ≡ Some p → (t : Fraction) (v : Position) →
    OnPiece interp ps i t v → Inside v r
piece_inside Discrete ps r i p rise all e t v h =
    there_inside r v (place p) (discrete_from ps i p e t v h).there (all i p e)
piece_inside Step ps r i p rise all e t v h =
    elim (cases_lt (i + 1) (length ps)) [
      | inl more ↦
          let q = get_or ps (i + 1) p in
          let f = slice_get-get_or ps (i + 1) p more in
          there_inside r v (place p) (held_from ps i p q e f t v h).there (all i p e)
      | inr over ↦
          there_inside r v (place p) (last_from ps rise i p over e t v h).there (all i p e)
    ]
piece_inside Linear ps r i p rise all e t v h =
    elim (cases_lt (i + 1) (length ps)) [
      | inl more ↦
          let q = get_or ps (i + 1) p in
          let f = slice_get-get_or ps (i + 1) p more in
          leg_inside p q r (rise i p q e f) (all i p e) (all (i + 1) q f) t v (leg_from ps i p q more e f t v h)
      | inr over ↦
          elim (cases_eq (length ps) 1) [
            | inl one ↦ there_inside r v (place p) (single_from ps i p one e t v h).there (all i p e)
            | inr many ↦ absurd (no_leg ps i over many t v h)
          ]
    ]

pub values_inside : (s : Sequence) (r : Area) → IsValid s → ((k : ℕ) → EachAt s.points (λ (q : Point). Inside (place q) r) k) →
    (t : Fraction) (v : Position) → At s t v → Inside v r
values_inside s r valid all t v h =
    let own = listed s.points h.i (place_within s.interp s.points h.i t v h.at_i) in
    piece_inside s.interp s.points r h.i own.0 valid.increasing all own.1 t v h.at_i

-- ---- rectangles with nothing in common
pub apart_inside : (v : Position) (q r : Area) → Inside v q → Inside v r →
    ¬ (AreApart q.x0 q.x1 r.x0 r.x1 ⊎ AreApart q.y0 q.y1 r.y0 r.y1)
apart_inside v q r a b h =
    let x = (whole_le r.x0 q.x1).1 (≤ᶠ_trans b.across.from a.across.to) in
    let x' = (whole_le q.x0 r.x1).1 (≤ᶠ_trans a.across.from b.across.to) in
    let y = (whole_le r.y0 q.y1).1 (≤ᶠ_trans b.along.from a.along.to) in
    let y' = (whole_le q.y0 r.y1).1 (≤ᶠ_trans a.along.from b.along.to) in
    omega (arith, ints, x, x', y, y', h)

-- ---- the bounds of what is held
abbrev pub area_of : Bounds → Area
area_of b = record { x0 = b.x0; y0 = b.y0; x1 = b.x1; y1 = b.y1 }

pub held_inside : (b : Bounds) (p : Point) → Holds b p → Inside (place p) (area_of b)
held_inside b p h =
    record {
      across = record { from = (whole_le b.x0 p.x).0 h.from_x; to = (whole_le p.x b.x1).0 h.to_x };
      along = record { from = (whole_le b.y0 p.y).0 h.from_y; to = (whole_le p.y b.y1).0 h.to_y };
    }

pub stays_out_of : (s : Sequence) (b : Bounds) (r : Area) → IsValid s → HoldsAll b s.points → IsApart b r → StaysOutOf s r
stays_out_of s b r valid all h =
    record {
      outside = λ t v at inside.
          apart_inside v (area_of b) r
          (values_inside s (area_of b) valid (λ k p e. held_inside b p (all.each k p e)) t v at) inside h;
    }

-- ---- a rectangle round the bounds
point_inside : (b : Bounds) (r : Area) (p : Point) → IsInside b r → Holds b p → Inside (place p) r
point_inside b r p i h =
    record {
      across = record {
        from = (whole_le r.x0 p.x).0 (omega (arith, ints, i.0.0, h.from_x));
        to = (whole_le p.x r.x1).0 (omega (arith, ints, i.0.1, h.to_x));
      };
      along = record {
        from = (whole_le r.y0 p.y).0 (omega (arith, ints, i.1.0, h.from_y));
        to = (whole_le p.y r.y1).0 (omega (arith, ints, i.1.1, h.to_y));
      };
    }

pub stays_in : (s : Sequence) (b : Bounds) (r : Area) → IsValid s → HoldsAll b s.points → IsInside b r → StaysIn s r
stays_in s b r valid all h =
    record { inside = values_inside s r valid (λ k p e. point_inside b r p h (all.each k p e)) }

-- ---- wider bounds
pub wider : (b c : Bounds) (p : Point) → IsWithin b c → Holds b p → Holds c p
wider b c p w h =
    record {
      from_x = omega (arith, ints, w.from_x, h.from_x);
      to_x = omega (arith, ints, w.to_x, h.to_x);
      from_y = omega (arith, ints, w.from_y, h.from_y);
      to_y = omega (arith, ints, w.to_y, h.to_y);
    }

pub wider_each : (b c : Bounds) (ps : List Point) (k : ℕ) → IsWithin b c → EachAt ps (Holds b) k → EachAt ps (Holds c) k
wider_each b c ps k w h p e = wider b c p w (h p e)

-- ---- a point more
pub held_more : (b : Bounds) (ps : List Point) (p : Point) → HoldsAll b ps → Holds b p → HoldsAll b (ps ++ p ∷ [])
held_more b ps p all h =
    record {
      each = λ k q e.
          elim (cases_lt k (length ps)) [
            | inl less ↦ all.each k q (kept_at ps p q k less e)
            | inr last ↦ subst (Holds b) (added_at ps p q k last e) h
          ];
    }

pub wider_all : (b c : Bounds) (ps : List Point) → IsWithin b c → HoldsAll b ps → HoldsAll c ps
wider_all b c ps w h = record { each = λ k. wider_each b c ps k w (h.each k) }

pub appended_all : (b c : Bounds) (ps : List Point) (p : Point) → IsWithin b c → Holds c p → HoldsAll b ps → HoldsAll c (ps ++ p ∷ [])
appended_all b c ps p w h all = held_more c ps p (wider_all b c ps w all) h

-- ---- what is answered of a rectangle in which the sequence never is, and of one that it never leaves
pub never_inside : (s : Sequence) (p : Span) (r : Area) → StaysOutOf s r → ¬ IsEver s p r Yes
never_inside s p r out e = out.outside e.t e.v e.value e.inside

pub ever_no : (s : Sequence) (p : Span) (r : Area) → Shares (At s) p → StaysOutOf s r → IsEver s p r No
ever_no s p r there out = (there, never_inside s p r out)

pub ever_yes : (s : Sequence) (p : Span) (r : Area) → Shares (At s) p → StaysIn s r → IsEver s p r Yes
ever_yes s p r there in_it =
    record { t = there.t; v = there.v; in_period = there.in_period; value = there.value; inside = in_it.inside there.t there.v there.value }

pub always_yes : (s : Sequence) (p : Span) (r : Area) → Shares (At s) p → StaysIn s r → IsAlways s p r Yes
always_yes s p r there in_it = (there, record { inside = λ t v _ value. in_it.inside t v value })

-- ---- the numbers of bounds and of a rectangle, as they are passed to a call: each is read as it was written
pub record BoundsFit (b : Bounds) : Type 0 where
  pub x0 : SFits w64 b.x0
  pub y0 : SFits w64 b.y0
  pub x1 : SFits w64 b.x1
  pub y1 : SFits w64 b.y1

pub record AreaFits (r : Area) : Type 0 where
  pub x0 : SFits w64 r.x0
  pub y0 : SFits w64 r.y0
  pub x1 : SFits w64 r.x1
  pub y1 : SFits w64 r.y1

pub area_fits : (r : Area) → IsArea r → AreaFits r
area_fits r s =
    record {
      x0 = omega (arith, ints, s.x0_fits);
      y0 = omega (arith, ints, s.y0_fits);
      x1 = omega (arith, ints, s.x1_fits);
      y1 = omega (arith, ints, s.y1_fits);
    }
