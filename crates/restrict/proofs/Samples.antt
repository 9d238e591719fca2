-- A list that has the sequence's values at just the instants that a cut lists.
use Rattle.std.proofs.Common.{◌≡◌, ◌≢◌, ℕ, ◌<◌, ◌≤◌, ◌↔◌, ◌⊎◌, inl, inr, List, map, slice_get, Some, subst, refl, arith}
use Rattle.std.proofs.lemmas.Bool.{cases_lt}
use Rattle.tpoint.proofs.Fractions.{≤ᶠ_trans, ≈_sym, moment_le, moment_lt, ≤ᶠ_of_<ᶠ}
use Rattle.tpoint.proofs.PieceLemmas.{unmap}
use Rattle.tpoint.proofs.Unique.{at_unique}
use Rattle.tpoint.specs.Fraction.{Fraction, ◌≈◌, ◌≤ᶠ◌}
use Rattle.tpoint.specs.Moving.{Position, Vertex, IsPositionOf, AtListed, Sequence, At, IsValid, moment, vertex}
use Rattle.tpoint.specs.Extents.{Span, HasInstant, LiesIn, first_whole, last_whole}
use Rattle.tpoint.specs.Pieces.{place}
use Rattle.tpoint.specs.declared.point.Point.{Point}
use Rattle.tpoint.specs.declared.interp.Interp.TheVariants.{Discrete}
use Rattle.tpoint.proofs.Periods.{after_end, before_begin, whole_lies}
use Rattle.restrict.specs.Cuts.{HasValueAt, IsCutInstant, IsCutPlace, IsListedIn, StopsBefore}
use Rattle.restrict.proofs.OwnValues.{own_value}
use Rattle.restrict.proofs.Transport.{at_time, at_place}
use Rattle.restrict.proofs.Ordered.{Ascends, place_before}
use Rattle.restrict.proofs.Spans.{NotAfter, NotBefore, begun_before, ended_after, fills, fills_of}

-- an instant is not before a period, nor after it, in it or not
pub record Around (t : Fraction) (p : Span) : Type 0 where
  pub begun : moment p.begin ≤ᶠ t
  pub not_over : t ≤ᶠ moment p.end

pub around_of : {t : Fraction} {p : Span} → LiesIn t p → Around t p
around_of h = record { begun = h.begun.not_after; not_over = h.not_over.not_after }

around_by : (p : Span) (n : ℕ) → p.begin ≤ n → n ≤ p.end → Around (moment n) p
around_by p n from to = record { begun = (moment_le p.begin n).0 from; not_over = (moment_le n p.end).0 to }

pub record Samples (s : Sequence) (p : Span) (list : List Vertex) : Type 0 where
  pub valid : IsValid s
  pub has : HasInstant p
  pub ascending : Ascends list
  pub instants : (n : ℕ) → IsListedIn list n ↔ IsCutInstant s p n
  pub placed : (k : ℕ) (w : Vertex) → slice_get list k ≡ Some w → IsCutPlace s p w

module _ (s : Sequence) (p : Span) (list : List Vertex) (S : Samples s p list) where
  -- ---- what is listed
  cut_instant : (k : ℕ) (w : Vertex) → slice_get list k ≡ Some w → IsCutInstant s p w.time
  cut_instant k w e = (S.instants w.time).0 (record { i = k; point = w; listed = e; then = refl })

  pub in_period : (k : ℕ) (w : Vertex) → slice_get list k ≡ Some w → Around (moment w.time) p
  in_period k w e =
      let order = S.has.ordered in
      elim (cut_instant k w e) [
        | inl h ↦ around_of h.in_period
        | inr h ↦
            elim h.is_end [
              | inl begin ↦ around_by p w.time (omega (arith, begin)) (omega (arith, begin, order))
              | inr end ↦ around_by p w.time (omega (arith, end, order)) (omega (arith, end))
            ]
      ]

  own_instant : (m : ℕ) (q : Point) → slice_get s.points m ≡ Some q → HasValueAt s q.t
  own_instant m q e = record { v = place q; value = own_value s S.valid m q e }

  -- the sequence has a value at each
  pub value_listed : (k : ℕ) (w : Vertex) → slice_get list k ≡ Some w → HasValueAt s w.time
  value_listed k w e =
      elim (cut_instant k w e) [
        | inl h ↦ subst (λ (n : ℕ). HasValueAt s n) h.listed.then (own_instant h.listed.i h.listed.point h.listed.listed)
        | inr h ↦ h.has_value
      ]

  inner_listed : (m : ℕ) (q : Point) → slice_get s.points m ≡ Some q → LiesIn (moment q.t) p → IsListedIn list q.t
  inner_listed m q e lies =
      (S.instants q.t).1 (inl (record { in_period = lies; listed = record { i = m; point = q; listed = e; then = refl } }))

  -- an instant of the sequence in the period is listed, and at an end that isn't in, where the sequence goes on
  point_listed : s.interp ≢ Discrete → (m : ℕ) (q : Point) → slice_get s.points m ≡ Some q → Around (moment q.t) p → IsListedIn list q.t
  point_listed goes_on m q e k =
      let from = (moment_le p.begin q.t).1 k.begun in
      let to = (moment_le q.t p.end).1 k.not_over in
      let at_end : ((q.t ≡ p.begin) ⊎ (q.t ≡ p.end)) → IsListedIn list q.t =
      λ is_end. (S.instants q.t).1 (inr (record { goes_on = goes_on; is_end = is_end; has_value = own_instant m q e })) in
      elim (cases_lt q.t (first_whole p)) [
        | inl before ↦ at_end (inl (omega (arith, from, before_begin p q.t before)))
        | inr begun ↦
            elim (cases_lt (last_whole p) q.t) [
              | inl after ↦ at_end (inr (omega (arith, to, after_end p q.t after)))
              | inr over ↦ inner_listed m q e ((whole_lies p q.t S.has).0 (begun, over))
            ]
      ]

  pub vertex_inside : (m : ℕ) (u : Vertex) → slice_get (map vertex s.points) m ≡ Some u → LiesIn (moment u.time) p → IsListedIn list u.time
  vertex_inside m u e lies =
      let f = unmap s.points m u e in
      let P : Vertex → Type 0 = λ w. LiesIn (moment w.time) p → IsListedIn list w.time in
      subst P f.2 (inner_listed m f.0 f.1) lies

  pub vertex_listed : s.interp ≢ Discrete → (m : ℕ) (u : Vertex) → slice_get (map vertex s.points) m ≡ Some u → Around (moment u.time) p
      → IsListedIn list u.time
  vertex_listed goes_on m u e within =
      let f = unmap s.points m u e in
      let P : Vertex → Type 0 = λ w. Around (moment w.time) p → IsListedIn list w.time in
      subst P f.2 (point_listed goes_on m f.0 f.1) within

  -- an instant of the sequence from the vertex w on is listed after w
  pub listed_after : s.interp ≢ Discrete → (i : ℕ) (w : Vertex) → slice_get list i ≡ Some w → (m : ℕ) (u : Vertex)
      → slice_get (map vertex s.points) m ≡ Some u
      → w.time < u.time → moment u.time ≤ᶠ moment p.end
      → (j : ℕ) × (x : Vertex) × (i < j) × (slice_get list j ≡ Some x) × (x.time ≡ u.time)
  listed_after goes_on i w e m u f later to =
      let from = (in_period i w e).begun in
      let l = vertex_listed goes_on m u f (record { begun = ≤ᶠ_trans from (≤ᶠ_of_<ᶠ ((moment_lt w.time u.time).0 later)); not_over = to })
      in
      (l.i, l.point, place_before list S.ascending i l.i w l.point (omega (arith, l.then)) e l.listed, l.listed, l.then)

  -- ---- at a listed instant
  pub listed_to : (i : ℕ) (w : Vertex) (t : Fraction) (v : Position) → slice_get list i ≡ Some w → ¬ StopsBefore s p w.time
      → t ≈ moment w.time → IsPositionOf v w.place → At s t v
  listed_to i w t v e free then there =
      at_time s S.valid (moment w.time) t v (≈_sym then)
      (at_place s S.valid (moment w.time) v w.place there ((S.placed i w e).there free))

  pub listed_from : (i : ℕ) (w : Vertex) (t : Fraction) (v : Position) → slice_get list i ≡ Some w → ¬ StopsBefore s p w.time
      → t ≈ moment w.time → At s t v → AtListed list i t v
  listed_from i w t v e free then h =
      record {
        point = w;
        listed = e;
        then = then;
        there = at_unique s S.valid (moment w.time) v w.place (at_time s S.valid t (moment w.time) v then h) ((S.placed i w e).there free);
      }

  -- ---- listed instants reach as far as the values in the period
  -- an end of the period is listed, where it lies between two instants of the sequence
  end_listed : s.interp ≢ Discrete → (n : ℕ) → (n ≡ p.begin) ⊎ (n ≡ p.end) → NotAfter (map vertex s.points) (moment n)
      → NotBefore (map vertex s.points) (moment n) → IsListedIn list n
  end_listed goes_on n is_end from to =
      let v = fills s.interp (fills_of s.interp goes_on) s.points S.valid.increasing (moment n) from to in
      (S.instants n).1 (inr (record { goes_on = goes_on; is_end = is_end; has_value = record { v = v.0; value = v.1 } }))

  listed_until : (n : ℕ) (t : Fraction) → moment n ≤ᶠ t → IsListedIn list n → NotAfter list t
  listed_until n t from l =
      let same = (moment_le l.point.time n).0 (omega (arith, l.then)) in
      record { i = l.i; w = l.point; listed = l.listed; reached = ≤ᶠ_trans same from }

  listed_since : (n : ℕ) (t : Fraction) → t ≤ᶠ moment n → IsListedIn list n → NotBefore list t
  listed_since n t to l =
      let same = (moment_le n l.point.time).0 (omega (arith, l.then)) in
      record { i = l.i; w = l.point; listed = l.listed; reaches = ≤ᶠ_trans to same }

  low_end : s.interp ≢ Discrete → (t : Fraction) → Around t p → NotAfter (map vertex s.points) t → NotBefore (map vertex s.points) t
      → NotAfter list t
  low_end goes_on t within a b =
      elim (cases_lt a.w.time p.begin) [
        | inl l ↦
            let from = ≤ᶠ_of_<ᶠ ((moment_lt a.w.time p.begin).0 l) in
            listed_until p.begin t within.begun
            (end_listed goes_on p.begin (inl refl) (record { i = a.i; w = a.w; listed = a.listed; reached = from })
            (record { i = b.i; w = b.w; listed = b.listed; reaches = ≤ᶠ_trans within.begun b.reaches }))
        | inr l ↦
            let from = (moment_le p.begin a.w.time).0 l in
            listed_until a.w.time t a.reached
            (vertex_listed goes_on a.i a.w a.listed (record { begun = from; not_over = ≤ᶠ_trans a.reached within.not_over }))
      ]

  high_end : s.interp ≢ Discrete → (t : Fraction) → Around t p → NotAfter (map vertex s.points) t → NotBefore (map vertex s.points) t
      → NotBefore list t
  high_end goes_on t within a b =
      elim (cases_lt p.end b.w.time) [
        | inl l ↦
            let to = ≤ᶠ_of_<ᶠ ((moment_lt p.end b.w.time).0 l) in
            listed_since p.end t within.not_over
            (end_listed goes_on p.end (inr refl)
            (record { i = a.i; w = a.w; listed = a.listed; reached = ≤ᶠ_trans a.reached within.not_over })
            (record { i = b.i; w = b.w; listed = b.listed; reaches = to }))
        | inr l ↦
            let to = (moment_le b.w.time p.end).0 l in
            listed_since b.w.time t b.reaches
            (vertex_listed goes_on b.i b.w b.listed (record { begun = ≤ᶠ_trans within.begun b.reaches; not_over = to }))
      ]

  pub listed_before : s.interp ≢ Discrete → (t : Fraction) (v : Position) → Around t p → At s t v → NotAfter list t
  listed_before goes_on t v within h =
      low_end goes_on t within (begun_before s.interp (map vertex s.points) h.i t v h.at_i)
      (ended_after s.interp (map vertex s.points) h.i t v h.at_i)

  pub listed_behind : s.interp ≢ Discrete → (t : Fraction) (v : Position) → Around t p → At s t v → NotBefore list t
  listed_behind goes_on t v within h =
      high_end goes_on t within (begun_before s.interp (map vertex s.points) h.i t v h.at_i)
      (ended_after s.interp (map vertex s.points) h.i t v h.at_i)
