-- The value at the begin, the points inside and the value at the end are the cut's: its instants, with their positions.
use Rattle.std.proofs.Common.{◌≡◌, ◌≢◌, ℕ, ◌+◌, ◌<◌, ◌≤◌, ◌↔◌, inl, inr, zero, suc, Bool, true, false, not, is_some, ◌||◌, List, [], ◌∷◌}
use Rattle.std.proofs.Common.{◌++◌, map, length, slice_get, Option, Some, None, option_to_list, sym, ◌∙◌, ap, subst, refl, arith}
use Rattle.std.specs.Option.{is_none}
use Rattle.std.proofs.lemmas.Bool.{cases_lt}
use Rattle.std.proofs.lemmas.Option.{same_Some, none-some, slice_get_within}
use Rattle.tpoint.proofs.Fractions.{moment_lt}
use Rattle.tpoint.proofs.Periods.{begun_at, first_then, last_then, open_end, over_at, whole_lies}
use Rattle.tpoint.specs.Moving.{Vertex, Sequence, At, HasValue, IsValid, moment}
use Rattle.tpoint.specs.Extents.{Span, HasInstant, LiesIn, Shares, first_whole, last_whole}
use Rattle.tpoint.specs.Pieces.{place}
use Rattle.tpoint.specs.declared.interp.Interp.{Interp}
use Rattle.tpoint.specs.declared.interp.Interp.TheVariants.{Discrete}
use Rattle.tpoint.specs.declared.point.Point.{Point}
use Rattle.restrict.specs.Cuts.{HasValueAt, IsCut, IsCutInstant, IsCutPlace, IsInstantOf, IsListedIn, vertex_of}
use Rattle.restrict.specs.Inside.{AddsNone, ArePoints, AreJoined, IsAddedFirst, IsAddedLast, IsFirstPoint, IsInside, IsLast, IsPoint, IsValueAt}
use Rattle.restrict.proofs.Joining.{left, right, get_left, get_right, side}
use Rattle.restrict.proofs.OwnValues.{own_value}
use Rattle.restrict.proofs.Samples.{Samples}
use Rattle.restrict.proofs.Shared.{Ends, Triple, begin_added, end_added, last_value}
use Rattle.restrict.proofs.Transport.{at_place}
use Rattle.restrict.proofs.Values.{AreMarked, values}

-- ---- lists
some_at : {A : Type 0} → (xs : List A) (k : ℕ) → k < length xs → (x : A) × (slice_get xs k ≡ Some x)
some_at [] k h = absurd (omega arith)
some_at (x ∷ xs) zero h = (x, refl)
some_at (x ∷ xs) (suc k) h = some_at xs k (omega arith)

of_mapped : {A B : Type 0} → (f : A → B) (xs : List A) (k : ℕ) (w : B) → slice_get (map f xs) k ≡ Some w
    → (x : A) × (slice_get xs k ≡ Some x) × (f x ≡ w)
of_mapped f [] k w e = absurd (none-some w e)
of_mapped f (x ∷ xs) zero w e = (x, refl, same_Some (f x) w e)
of_mapped f (x ∷ xs) (suc k) w e = of_mapped f xs k w e

to_mapped : {A B : Type 0} → (f : A → B) (xs : List A) (k : ℕ) (x : A) → slice_get xs k ≡ Some x → slice_get (map f xs) k ≡ Some (f x)
to_mapped f [] k x e = absurd (none-some x e)
to_mapped f (y ∷ xs) zero x e = ap (λ z. Some (f z)) (same_Some y x e)
to_mapped f (y ∷ xs) (suc k) x e = to_mapped f xs k x e

of_option : {A : Type 0} → (o : Option A) (k : ℕ) (x : A) → slice_get (option_to_list o) k ≡ Some x → (k ≡ 0) × (o ≡ Some x)
of_option None k x e = absurd (none-some x e)
of_option (Some y) zero x e = (refl, e)
of_option (Some y) (suc k) x e = absurd (none-some x e)

abbrev Up : List Triple → Type 0
Up ws = (k : ℕ) (a b : Triple) → slice_get ws k ≡ Some a → slice_get ws (k + 1) ≡ Some b → a.0 < b.0

abbrev AllBefore : List Triple → List Triple → Type 0
AllBefore xs ys = (i j : ℕ) (a b : Triple) → slice_get xs i ≡ Some a → slice_get ys j ≡ Some b → a.0 < b.0

up_option : (o : Option Triple) → Up (option_to_list o)
up_option o k a b e f = absurd (omega (arith, (of_option o (k + 1) b f).0))

up_joined : (xs ys : List Triple) → Up xs → Up ys → AllBefore xs ys → Up (xs ++ ys)
up_joined xs ys up vp before k a b e f =
    elim (side xs ys (k + 1) b f) [
      | left g ↦
          elim (side xs ys k a e) [
            | left h ↦ up k a b h g
            | right i l h ↦ absurd (omega (arith, l, slice_get_within xs (k + 1) b g))
          ]
      | right j m g ↦
          elim (side xs ys k a e) [
            | left h ↦ before k j a b h g
            | right i l h ↦ vp i a b h (subst (λ (n : ℕ). slice_get ys n ≡ Some b) (omega (arith, l, m)) g)
          ]
    ]

apart_below : (n a b : ℕ) → a ≡ n → n ≤ b → ¬ (b ≡ n) → a < b
apart_below n a b e h other = elim (cases_lt a b) [ inl l ↦ l | inr l ↦ absurd (other (omega arith)) ]

apart_above : (n a b : ℕ) → b ≡ n → a ≤ n → ¬ (a ≡ n) → a < b
apart_above n a b e h other = elim (cases_lt a b) [ inl l ↦ l | inr l ↦ absurd (other (omega arith)) ]

-- ---- the points that are written
-- the point that is written at k
point_of : (qs : List Point) (ws : List Triple) → ArePoints qs (length qs) ws → (k : ℕ) (u : Triple) → slice_get ws k ≡ Some u
    → (q : Point) × (slice_get qs k ≡ Some q) × IsPoint q u
point_of qs ws are k u e =
    let x = some_at qs k (omega (arith, are.all, slice_get_within ws k u e)) in
    (x.0, x.1, are.each k x.0 u x.1 e)

up_points : (qs : List Point) (ws : List Triple) (ps : List Point) (p : Span) → IsInside ps p qs → ArePoints qs (length qs) ws → Up ws
up_points qs ws ps p inside are k a b e f =
    let x = point_of qs ws are k a e in
    let y = point_of qs ws are (k + 1) b f in
    omega (arith, inside.rising k x.0 y.0 x.1 y.1, x.2.then, y.2.then)

data Source (begin : Option Triple) (qs : List Point) (end : Option Triple) (u : Triple) : Type 0 where
  from_begin : begin ≡ Some u → Source begin qs end u
  from_point : (k : ℕ) (q : Point) → slice_get qs k ≡ Some q → IsPoint q u → Source begin qs end u
  from_end : end ≡ Some u → Source begin qs end u

source : (begin : Option Triple) (qs : List Point) (end : Option Triple) (mid : List Triple) → ArePoints qs (length qs) mid
    → (k : ℕ) (u : Triple) → slice_get (option_to_list begin ++ mid ++ option_to_list end) k ≡ Some u → Source begin qs end u
source begin qs end mid are k u e =
    elim (side (option_to_list begin ++ mid) (option_to_list end) k u e) [
      | left f ↦
          elim (side (option_to_list begin) mid k u f) [
            | left g ↦ from_begin (of_option begin k u g).1
            | right j l g ↦ let x = point_of qs mid are j u g in from_point j x.0 x.1 x.2
          ]
      | right j l f ↦ from_end (of_option end j u f).1
    ]

-- ---- single facts
value_at_its : (s : Sequence) (n : ℕ) (u : Triple) → IsValueAt s n u → At s (moment u.0) (vertex_of u).place
value_at_its s n u h = subst (λ (m : ℕ). At s (moment m) (vertex_of u).place) (sym h.0) h.1

point_instant : (s : Sequence) (p : Span) (qs : List Point) → HasInstant p → IsInside s.points p qs → (k : ℕ) (q : Point)
    → slice_get qs k ≡ Some q → IsCutInstant s p q.t
point_instant s p qs has inside k q e =
    inl (record {
      in_period = (whole_lies p q.t has).0 (inside.in_period k q e);
      listed = record { i = inside.first + k; point = q; listed = inside.from_list k q e; then = refl };
    })

-- ---- where an instant of the cut is kept
data Kept (begin : Option Triple) (qs : List Point) (end : Option Triple) (n : ℕ) : Type 0 where
  at_begin : (u : Triple) → begin ≡ Some u → u.0 ≡ n → Kept begin qs end n
  at_point : IsInstantOf qs n → Kept begin qs end n
  at_end : (u : Triple) → end ≡ Some u → u.0 ≡ n → Kept begin qs end n

kept_adds : (s : Sequence) (n : ℕ) (begin : Option Triple) (qs : List Point) (end : Option Triple) → s.interp ≢ Discrete
    → HasValueAt s n → AddsNone s qs n → Kept begin qs end n
kept_adds s n begin qs end goes_on v adds =
    elim adds [
      | inl l ↦ at_point l
      | inr r ↦ elim r [ inl discrete ↦ absurd (goes_on discrete) | inr no_value ↦ absurd (no_value v) ]
    ]

kept_begin : (s : Sequence) (p : Span) (begin : Option Triple) (qs : List Point) (end : Option Triple) → IsAddedFirst s p qs begin
    → s.interp ≢ Discrete → HasValueAt s p.begin → Kept begin qs end p.begin
kept_begin s p None qs end h goes_on v = kept_adds s p.begin None qs end goes_on v h
kept_begin s p (Some u) qs end h goes_on v = at_begin u refl h.value.0

kept_end : (s : Sequence) (p : Span) (begin : Option Triple) (qs : List Point) (end : Option Triple) → IsValid s → HasInstant p
    → IsAddedFirst s p qs begin → IsAddedLast s p qs end → Shares (At s) p → s.interp ≢ Discrete → HasValueAt s p.end
    → Kept begin qs end p.end
kept_end s p begin qs None valid has b h shared goes_on v =
    elim h [
      | inl adds ↦ kept_adds s p.end begin qs None goes_on v adds
      | inr r ↦
          elim r [
            | inl same ↦
                let first = kept_begin s p begin qs None b goes_on (subst (λ (n : ℕ). HasValueAt s n) (sym same) v) in
                subst (λ (n : ℕ). Kept begin qs None n) same first
            | inr no_value ↦ absurd (no_value (last_value s valid p has goes_on shared v))
          ]
    ]
kept_end s p begin qs (Some u) valid has b h shared goes_on v = at_end u refl h.value.then

listed_option : (o : Option Triple) (u : Triple) → o ≡ Some u → slice_get (option_to_list o) 0 ≡ Some u
listed_option None u e = e
listed_option (Some v) u e = e

-- its place in the list
record IsIn (ws : List Triple) (n : ℕ) : Type 0 where
  i : ℕ
  u : Triple
  listed : slice_get ws i ≡ Some u
  then : u.0 ≡ n

find : (begin : Option Triple) (qs : List Point) (end : Option Triple) (mid : List Triple) → ArePoints qs (length qs) mid → (n : ℕ)
    → Kept begin qs end n → IsIn (option_to_list begin ++ mid ++ option_to_list end) n
find begin qs end mid are n h =
    let xs = option_to_list begin in
    let zs = option_to_list end in
    elim h [
      | at_begin u e f ↦ record {
        i = 0;
        u = u;
        listed = get_left (xs ++ mid) zs 0 u (get_left xs mid 0 u (listed_option begin u e));
        then = f;
      }
      | at_end u e f ↦ record {
        i = 0 + length (xs ++ mid);
        u = u;
        listed = get_right (xs ++ mid) zs 0 u (listed_option end u e);
        then = f;
      }
      | at_point l ↦
          let x = some_at mid l.i (omega (arith, are.all, slice_get_within qs l.i l.point l.listed)) in
          let y = are.each l.i l.point x.0 l.listed x.1 in
          record {
            i = l.i + length xs;
            u = x.0;
            listed = get_left (xs ++ mid) zs (l.i + length xs) x.0 (get_right xs mid l.i x.0 x.1);
            then = y.then ∙ l.then;
          }
    ]

-- an end of the period that isn't in, and adds its value
neither : (b : Bool) (o : Option Triple) → (b || is_none o) ≡ false → (b ≡ false) × (u : Triple) × (o ≡ Some u)
neither true o e = absurd (cc)
neither false None e = absurd (cc)
neither false (Some u) e = (refl, u, refl)

open_then : (b : Bool) (o : Option Triple) (u : Triple) → b ≡ false → o ≡ Some u → (b || is_none o) ≡ false
open_then b o u e f = rw (e, f) refl

pub by_itself : (b n r : Bool) → b ≡ true → r ≡ true → r ≡ (b || n)
by_itself b n r e f = rw (e, f) refl

pub by_other : (b r none : Bool) (o : Option Triple) → b ≡ false → r ≡ none → is_some o ≡ not none → r ≡ (b || is_none o)
by_other b r true None e f g = rw (e, f) refl
by_other b r false None e f g = absurd (cc)
by_other b r true (Some u) e f g = absurd (cc)
by_other b r false (Some u) e f g = rw (e, f) refl

-- a point of the period at its begin, or at its end
first_then_point : (p : Span) (qs : List Point) → IsInstantOf qs p.begin
    → ((k : ℕ) (q : Point) → slice_get qs k ≡ Some q → first_whole p ≤ q.t) → first_whole p ≤ p.begin
first_then_point p qs l from = subst (λ (n : ℕ). first_whole p ≤ n) l.then (from l.i l.point l.listed)

last_point_then : (p : Span) (qs : List Point) → IsInstantOf qs p.end
    → ((k : ℕ) (q : Point) → slice_get qs k ≡ Some q → q.t ≤ last_whole p) → p.end ≤ last_whole p
last_point_then p qs l to = subst (λ (n : ℕ). n ≤ last_whole p) l.then (to l.i l.point l.listed)

module _ (s : Sequence) (p : Span) (begin : Option Triple) (qs : List Point) (end : Option Triple) (E : Ends s p begin qs end) where
  first_of : (u : Triple) → begin ≡ Some u → IsFirstPoint s p qs u
  first_of = begin_added s p begin qs end E

  last_of : (u : Triple) → end ≡ Some u → IsLast s p qs u
  last_of = end_added s p begin qs end E

  -- the list ascends
  up_all : (mid : List Triple) → ArePoints qs (length qs) mid → Up (option_to_list begin ++ mid ++ option_to_list end)
  up_all mid are =
      up_joined (option_to_list begin ++ mid) (option_to_list end)
      (up_joined (option_to_list begin) mid (up_option begin) (up_points qs mid s.points p E.inside are) (λ i j a b e f.
      let x = first_of a (of_option begin i a e).1 in
      let y = point_of qs mid are j b f in
      let from = first_then p y.0.t (E.inside.in_period j y.0 y.1).0 in
      apart_below p.begin a.0 b.0 x.value.0 (omega (arith, from, y.2.then))
      (λ l. x.not_listed (record { i = j; point = y.0; listed = y.1; then = sym y.2.then ∙ l }))))
      (up_option end) (λ i j a b e f.
      let y = last_of b (of_option end j b f).1 in
      elim (side (option_to_list begin) mid i a e) [
        | left g ↦
            let x = first_of a (of_option begin i a g).1 in
            apart_below p.begin a.0 b.0 x.value.0 (omega (arith, E.has.ordered, y.value.then)) (λ l. y.apart (sym l ∙ y.value.then))
        | right m l g ↦
            let x = point_of qs mid are m a g in
            let to = last_then p x.0.t (E.inside.in_period m x.0 x.1).1 in
            apart_above p.end a.0 b.0 y.value.then (omega (arith, to, x.2.then))
            (λ h. y.not_listed (record { i = m; point = x.0; listed = x.1; then = sym x.2.then ∙ h }))
      ])

  -- each of the list has its position: at the begin and at a point it is the sequence's
  own_place : (u : Triple) → (p.end_in ≡ false → u.0 < p.end) → At s (moment u.0) (vertex_of u).place → IsCutPlace s p (vertex_of u)
  own_place u less h =
      record {
        there = λ _. h;
        before = λ stops. let early_enough = less stops.not_in in
            absurd (omega (arith, early_enough, stops.is_end));
      }

  placed : (u : Triple) → Source begin qs end u → IsCutPlace s p (vertex_of u)
  placed u from =
      elim from [
        | from_begin e ↦
            let x = first_of u e in
            own_place u (λ not_in. let less = open_end p E.has not_in in omega (arith, less, x.value.0)) (value_at_its s p.begin u x.value)
        | from_end e ↦ (last_of u e).value.there
        | from_point k q e h ↦
            let own = own_value s E.valid (E.inside.first + k) q (E.inside.from_list k q e) in
            let here = at_place s E.valid (moment q.t) (vertex_of u).place (place q) h.there own in
            let to = (over_at p q.t E.has).0 (E.inside.in_period k q e).1 in
            own_place u (λ not_in. let less = (moment_lt q.t p.end).1 (to.apart not_in) in omega (arith, less, h.then))
            (subst (λ (m : ℕ). At s (moment m) (vertex_of u).place) (sym h.then) here)
      ]

  -- which is an instant of the cut
  at_cut_instant : (u : Triple) → Source begin qs end u → IsCutInstant s p u.0
  at_cut_instant u from =
      elim from [
        | from_begin e ↦
            let x = first_of u e in
            let here : HasValueAt s p.begin = record { v = (vertex_of u).place; value = x.value.1 } in
            subst (λ (n : ℕ). IsCutInstant s p n) (sym x.value.0)
            (inr (record { goes_on = x.goes_on; is_end = inl refl; has_value = here }))
        | from_end e ↦
            let x = last_of u e in
            subst (λ (n : ℕ). IsCutInstant s p n) (sym x.value.then)
            (inr (record { goes_on = x.goes_on; is_end = inr refl; has_value = x.value.has_value }))
        | from_point k q e h ↦
            subst (λ (n : ℕ). IsCutInstant s p n) (sym h.then) (point_instant s p qs E.has E.inside k q e)
      ]

  -- and each instant of the cut is among them
  kept : Shares (At s) p → (n : ℕ) → IsCutInstant s p n → Kept begin qs end n
  kept shared n h =
      let P : ℕ → Type 0 = λ m. Kept begin qs end m in
      let Q : ℕ → Type 0 = λ m. HasValueAt s m in
      elim h [
        | inl l ↦
            let lies = subst (λ (m : ℕ). LiesIn (moment m) p) (sym l.listed.then) l.in_period in
            let within = (whole_lies p l.listed.point.t E.has).1 lies in
            let x = E.inside.all l.listed.i l.listed.point l.listed.listed within.0 within.1 in
            at_point (record { i = x.0; point = l.listed.point; listed = x.1; then = l.listed.then })
        | inr l ↦
            elim l.is_end [
              | inl e ↦ subst P (sym e) (kept_begin s p begin qs end E.at_begin l.goes_on (subst Q e l.has_value))
              | inr e ↦
                  subst P (sym e)
                  (kept_end s p begin qs end E.valid E.has E.at_begin E.at_end shared l.goes_on (subst Q e l.has_value))
            ]
      ]

  -- together
  samples_joined : Shares (At s) p → (mid : List Triple) → ArePoints qs (length qs) mid
      → Samples s p (map vertex_of (option_to_list begin ++ mid ++ option_to_list end))
  samples_joined shared mid are =
      let ws = option_to_list begin ++ mid ++ option_to_list end in
      record {
        valid = E.valid;
        has = E.has;
        ascending = λ k a b e f.
            let x = of_mapped vertex_of ws k a e in
            let y = of_mapped vertex_of ws (k + 1) b f in
            let P : Vertex → Type 0 = λ w. w.time < b.time in
            let Q : Vertex → Type 0 = λ w. x.0.0 < w.time in
            subst P x.2 (subst Q y.2 (up_all mid are k x.0 y.0 x.1 y.1));
        instants = λ n. (
          λ h.
              let x = of_mapped vertex_of ws h.i h.point h.listed in
              let here = at_cut_instant x.0 (source begin qs end mid are h.i x.0 x.1) in
              subst (λ (m : ℕ). IsCutInstant s p m) (ap (λ (w : Vertex). w.time) x.2 ∙ h.then) here,
          λ h.
              let x = find begin qs end mid are n (kept shared n h) in
              record { i = x.i; point = vertex_of x.u; listed = to_mapped vertex_of ws x.i x.u x.listed; then = x.then },
        );
        placed = λ k w e.
            let x = of_mapped vertex_of ws k w e in
            let P : Vertex → Type 0 = λ w. IsCutPlace s p w in
            subst P x.2 (placed x.0 (source begin qs end mid are k x.0 x.1));
      }

  samples : Shares (At s) p → (ws : List Triple) → AreJoined begin qs end ws → Samples s p (map vertex_of ws)
  samples shared ws j =
      subst (λ (l : List Triple). Samples s p (map vertex_of l)) (sym j.joined) (samples_joined shared j.inside j.are_points)

  -- ---- its ends
  -- where a cut doesn't begin, or end, with the period's own end, it lists that end if the value there was added
  marked_then : (n : ℕ) (own : Bool) (o : Option Triple) → ((u : Triple) → o ≡ Some u → IsCutInstant s p n)
      → (list : List Vertex) → Samples s p list → own || is_none o ≡ false → (own ≡ false) × IsListedIn list n
  marked_then n own o at list S h = let x = neither own o h in (x.0, (S.instants n).1 (at x.1 x.2))

  begin_marked : (list : List Vertex) → Shares (At s) p → Samples s p list →
      (p.begin_in || is_none begin ≡ false) ↔ ((p.begin_in ≡ false) × IsListedIn list p.begin)
  begin_marked list shared S = (
    marked_then p.begin p.begin_in begin
        (λ u e. subst (λ (n : ℕ). IsCutInstant s p n) (first_of u e).value.0 (at_cut_instant u (from_begin e))) list S,
    λ h.
        elim (kept shared p.begin ((S.instants p.begin).0 h.1)) [
          | at_begin u e f ↦ open_then p.begin_in begin u h.0 e
          | at_point l ↦
              let from = first_then_point p qs l (λ k q e. (E.inside.in_period k q e).0) in
              let less = (moment_lt p.begin p.begin).1 (((begun_at p p.begin).0 from).apart h.0) in
              absurd (omega (arith, less))
          | at_end u e f ↦ let last = last_of u e in absurd (last.apart (sym f ∙ last.value.then))
        ],
  )

  end_marked : (list : List Vertex) → Shares (At s) p → Samples s p list →
      (p.end_in || is_none end ≡ false) ↔ ((p.end_in ≡ false) × IsListedIn list p.end)
  end_marked list shared S = (
    marked_then p.end p.end_in end
        (λ u e. subst (λ (n : ℕ). IsCutInstant s p n) (last_of u e).value.then (at_cut_instant u (from_end e))) list S,
    λ h.
        elim (kept shared p.end ((S.instants p.end).0 h.1)) [
          | at_end u e f ↦ open_then p.end_in end u h.0 e
          | at_point l ↦
              let to = last_point_then p qs l (λ k q e. (E.inside.in_period k q e).1) in
              let less = (moment_lt p.end p.end).1 (((over_at p p.end E.has).0 to).apart h.0) in
              absurd (omega (arith, less))
          | at_begin u e f ↦
              let first = first_of u e in
              let less = open_end p E.has h.0 in
              absurd (omega (arith, less, first.value.0, f))
        ],
  )

-- ---- the cut
pub is_cut : (s : Sequence) (p : Span) (begin : Option Triple) (qs : List Point) (end : Option Triple) (interp : Interp)
    (ws : List Triple) (begin_in end_in : Bool) → interp ≡ s.interp → begin_in ≡ (p.begin_in || is_none begin)
    → end_in ≡ (p.end_in || is_none end) → Ends s p begin qs end → Shares (At s) p → AreJoined begin qs end ws
    → IsCut s p (record { interp = interp; vertices = map vertex_of ws; begin_in = begin_in; end_in = end_in })
is_cut s p begin qs end interp ws begin_in end_in same e f E shared j =
    let list = map vertex_of ws in
    let S = samples s p begin qs end E shared ws j in
    let Begins : Bool → Type 0 = λ b. (b ≡ false) ↔ ((p.begin_in ≡ false) × IsListedIn list p.begin) in
    let Ends : Bool → Type 0 = λ b. (b ≡ false) ↔ ((p.end_in ≡ false) × IsListedIn list p.end) in
    let begin_open = subst Begins (sym e) (begin_marked s p begin qs end E list shared S) in
    let end_open = subst Ends (sym f) (end_marked s p begin qs end E list shared S) in
    let M : AreMarked p list begin_in end_in = record { begin_open = begin_open; end_open = end_open } in
    record {
      shared = shared;
      same_interp = same;
      ascending = S.ascending;
      instants = S.instants;
      positions = S.placed;
      begin_open = begin_open;
      end_open = end_open;
      values = λ t v.
          let h = values s p list begin_in end_in S M t v in
          let P : Interp → Type 0 = λ i. HasValue i list t v in (
            λ x. h.0 (x.in_extent, subst P same x.value),
            λ y. let z = h.1 y in record { in_extent = z.0; value = subst P (sym same) z.1 },
          );
    }

-- the same, for points that are those of the sequence
pub ends_of : (s : Sequence) (p : Span) (ps : List Point) (begin : Option Triple) (qs : List Point) (end : Option Triple) → IsValid s
    → ps ≡ s.points → HasInstant p → IsInside ps p qs → IsAddedFirst s p qs begin → IsAddedLast s p qs end → Ends s p begin qs end
ends_of s p ps begin qs end valid same has inside b e =
    record { valid = valid; has = has; inside = subst (λ (l : List Point). IsInside l p qs) same inside; at_begin = b; at_end = e }
