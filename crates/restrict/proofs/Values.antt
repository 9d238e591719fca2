-- A list that has the sequence's values at just the instants that a cut lists has just the sequence's values in the period.
use Rattle.std.proofs.Common.{◌≡◌, ◌≢◌, ℕ, ◌+◌, ◌-◌, ◌<◌, ◌≤◌, ◌↔◌, inl, inr, zero, suc, Bool, false, List, [], ◌∷◌, refl, ap, ◌∙◌, map}
use Rattle.std.proofs.Common.{length, slice_get, get_or, Some, sym, subst, arith}
use Rattle.std.proofs.lemmas.Bool.{cases_lt}
use Rattle.std.proofs.lemmas.Option.{slice_get_within, slice_get-get_or}
use Rattle.std.specs.Option.{option_map_or}
use Rattle.tpoint.proofs.Fractions.{≤ᶠ_trans, ≈_from_≤ᶠ, ≤ᶠ-<ᶠ, <ᶠ-≤ᶠ, moment_le, moment_lt, ≤ᶠ_of_<ᶠ, <ᶠ_of_≤ᶠ_not}
use Rattle.tpoint.proofs.Periods.{lies_same}
use Rattle.restrict.specs.Cuts.{IsListedIn, StopsBefore, time_at}
use Rattle.tpoint.proofs.PieceLemmas.{unmap, mapped, leg_to}
use Rattle.tpoint.proofs.Unique.{at_unique, leg_local}
use Rattle.tpoint.specs.Fraction.{Fraction, ◌≈◌, ◌≤ᶠ◌, ◌<ᶠ◌}
use Rattle.tpoint.specs.Moving.{Position, Vertex, BetweenNeighbours, HasValue, Sequence, At, moment, vertex}
use Rattle.tpoint.specs.Extents.{Span, LiesIn}
use Rattle.tpoint.specs.declared.point.Point.{Point}
use Rattle.tpoint.specs.declared.interp.Interp.{Interp}
use Rattle.tpoint.specs.declared.interp.Interp.TheVariants.{Discrete, Step, Linear}
use Rattle.restrict.proofs.Latest.{IsLatest, not_after_or_after}
use Rattle.restrict.proofs.Transport.{at_place}
use Rattle.restrict.proofs.Ordered.{Ascends, not_later, place_before, rising}
use Rattle.restrict.proofs.PartOfLeg.{Follows, part}
use Rattle.restrict.proofs.Samples.{Samples, around_of, in_period, vertex_inside, value_listed, listed_after, listed_to, listed_from}
use Rattle.restrict.proofs.Samples.{listed_before, listed_behind}
use Rattle.restrict.proofs.Spans.{NotAfter, NotBefore, latest_of, latest_point, begun_before, ended_after, held_value}

abbrev seq : Interp → List Point → Sequence
seq interp ps = record { interp = interp; points = ps }

-- ---- Discrete
discrete_free : (ps : List Point) (p : Span) (n : ℕ) → ¬ StopsBefore (seq Discrete ps) p n
discrete_free ps p n h = let no_step = h.is_step in absurd (cc)

module _ (ps : List Point) (p : Span) (list : List Vertex) (S : Samples (seq Discrete ps) p list) where
  discrete_from : (t : Fraction) (v : Position) → LiesIn t p → At (seq Discrete ps) t v → HasValue Discrete list t v
  discrete_from t v within h =
      let g = h.at_i in
      let l = vertex_inside (seq Discrete ps) p list S h.i g.point g.listed (lies_same g.then within) in
      let P : ℕ → Type 0 = λ n. t ≈ moment n in
      let free = discrete_free ps p l.point.time in
      record { i = l.i; at_i = listed_from (seq Discrete ps) p list S l.i l.point t v l.listed free (subst P (sym l.then) g.then) h }

-- ---- an instant before an end that isn't in
abbrev BeforeOpenEnd : Span → Fraction → Type 0
BeforeOpenEnd p t = p.end_in ≡ false → t <ᶠ moment p.end

before_free : (s : Sequence) (p : Span) (n : ℕ) (t : Fraction) → moment n ≤ᶠ t → BeforeOpenEnd p t → ¬ StopsBefore s p n
before_free s p n t reached before h =
    <ᶠ_of_≤ᶠ_not t (moment p.end) (before h.not_in) (subst (λ (m : ℕ). moment m ≤ᶠ t) h.is_end reached)

-- ---- Step: the sequence has at t what is listed last
module _ (ps : List Point) (p : Span) (list : List Vertex) (S : Samples (seq Step ps) p list) where
  step_on : Step ≢ Discrete
  step_on e = absurd (cc)

  step_carries : (t : Fraction) (i : ℕ) (w : Vertex) → IsLatest list t i w → t ≤ᶠ moment p.end → BeforeOpenEnd p t
      → NotBefore (map vertex ps) t → At (seq Step ps) t w.place
  step_carries t i w l to before last =
      let h = (S.placed i w l.listed).there (before_free (seq Step ps) p w.time t l.reached before) in
      let g = h.at_i in
      record {
        i = h.i;
        at_i = record {
          point = g.point;
          listed = g.listed;
          reached = ≤ᶠ_trans g.reached l.reached;
          not_left = λ m u k e.
              elim (not_after_or_after (moment u.time) t) [
                | inl reached ↦
                    let later = (moment_lt w.time u.time).1 (g.not_left m u k e) in
                    let x = listed_after (seq Step ps) p list S step_on i w l.listed m u e later (≤ᶠ_trans reached to) in
                    let P : ℕ → Type 0 = λ n. t <ᶠ moment n in
                    subst P x.4 (l.later x.0 x.1 x.2 x.3)
                | inr after ↦ after
              ];
          not_over = (last.i, last.w, last.listed, last.reaches);
          there = g.there;
        };
      }

  step_to : (t : Fraction) (v : Position) → HasValue Step list t v → BeforeOpenEnd p t → At (seq Step ps) t v
  step_to t v h before =
      let s = seq Step ps in
      let g = h.at_i in
      let end = in_period s p list S g.not_over.0 g.not_over.1 g.not_over.2 in
      let last = value_listed s p list S g.not_over.0 g.not_over.1 g.not_over.2 in
      let reaches = ended_after Step (map vertex ps) last.value.i (moment g.not_over.1.time) last.v last.value.at_i in
      let to = ≤ᶠ_trans g.not_over.3 end.not_over in
      let carried = step_carries t h.i g.point (record { listed = g.listed; reached = g.reached; later = g.not_left }) to before
      (record { i = reaches.i; w = reaches.w; listed = reaches.listed; reaches = ≤ᶠ_trans g.not_over.3 reaches.reaches }) in
      at_place s S.valid t v g.point.place g.there carried

  step_from : (t : Fraction) (v : Position) → LiesIn t p → At (seq Step ps) t v → HasValue Step list t v
  step_from t v lies h =
      let within = around_of lies in
      let l = latest_of list t (listed_before (seq Step ps) p list S step_on t v within h) in
      let carried = step_carries t l.i l.w l.is within.not_over lies.not_over.apart (ended_after Step (map vertex ps) h.i t v h.at_i) in
      held_value list t v l (listed_behind (seq Step ps) p list S step_on t v within h)
      (at_unique (seq Step ps) S.valid t v l.w.place h carried)

-- ---- Linear: neighbours in the cut lie on one leg of the sequence
record OneLeg (ps : List Point) (w new : Vertex) : Type 0 where
  i : ℕ
  a : Point
  b : Point
  follows : Follows ps i a b w new

module _ (ps : List Point) (p : Span) (list : List Vertex) (S : Samples (seq Linear ps) p list) where
  linear_on : Linear ≢ Discrete
  linear_on e = absurd (cc)

  linear_free : (n : ℕ) → ¬ StopsBefore (seq Linear ps) p n
  linear_free n h = let no_step = h.is_step in absurd (cc)

  one_leg : (k : ℕ) (w new : Vertex) → slice_get list k ≡ Some w → slice_get list (k + 1) ≡ Some new → OneLeg ps w new
  one_leg k w new e f =
      let s = seq Linear ps in
      let rise = S.valid.increasing in
      let order = S.ascending k w new e f in
      let h = (S.placed k w e).there (linear_free w.time) in
      let g = (S.placed (k + 1) new f).there (linear_free new.time) in
      let l = latest_point ps (moment w.time) (begun_before Linear (map vertex ps) h.i (moment w.time) w.place h.at_i) in
      let x = ended_after Linear (map vertex ps) g.i (moment new.time) new.place g.at_i in
      let reached = (moment_le l.p.t w.time).1 l.reached in
      let reaches = (moment_le new.time x.w.time).1 x.reaches in
      let ahead : l.i < x.i = place_before (map vertex ps) (rising ps rise) l.i x.i (vertex l.p) x.w (omega arith)
      (mapped ps l.i l.p l.listed) x.listed in
      let y = unmap ps x.i x.w x.listed in
      let b = get_or ps (l.i + 1) l.p in
      let eb : slice_get ps (l.i + 1) ≡ Some b = slice_get-get_or ps (l.i + 1) l.p (omega (arith, slice_get_within ps x.i y.0 y.1)) in
      let after = (moment_lt w.time b.t).1 (l.later (l.i + 1) b (omega arith) eb) in
      let to : new.time ≤ b.t =
      elim (cases_lt b.t new.time) [
        | inl early ↦
            let over = (in_period s p list S (k + 1) new f).not_over in
            let z = listed_after s p list S linear_on k w e (l.i + 1) (vertex b) (mapped ps (l.i + 1) b eb) after
            (≤ᶠ_trans ((moment_le b.t new.time).0 (omega arith)) over) in
            absurd (omega (arith, z.2, z.4, not_later list S.ascending (k + 1) z.0 new z.1 (omega (arith, z.2)) f z.3))
        | inr late ↦ late
      ] in
      record {
        i = l.i;
        a = l.p;
        b = b;
        follows = record {
          a_listed = l.listed;
          b_listed = eb;
          order = order;
          begin_on = leg_local ps rise l.i l.p b l.listed eb (moment w.time) w.place l.reached ((moment_le w.time b.t).0 (omega arith)) h;
          end_on = leg_local ps rise l.i l.p b l.listed eb (moment new.time) new.place ((moment_le l.p.t new.time).0 (omega arith))
              ((moment_le new.time b.t).0 to) g;
        };
      }

  between_to : (k : ℕ) (t : Fraction) (v : Position) → BetweenNeighbours list k t v → At (seq Linear ps) t v
  between_to k t v h =
      let l = one_leg k h.point h.next h.listed h.next_listed in
      let r = (part ps S.valid.increasing l.i l.a l.b h.point h.next l.follows t v).0 h.between in
      record { i = l.i; at_i = leg_to ps l.i l.a l.b l.follows.a_listed l.follows.b_listed t v r.2 }

  linear_to : (t : Fraction) (v : Position) → HasValue Linear list t v → At (seq Linear ps) t v
  linear_to t v h =
      elim h.at_i [
        | inl b ↦ between_to h.i t v b
        | inr b ↦
            listed_to (seq Linear ps) p list S h.i b.1.point t v b.1.listed (linear_free b.1.point.time) b.1.then b.1.there
      ]

  between_from : (k : ℕ) (w new : Vertex) → slice_get list k ≡ Some w → slice_get list (k + 1) ≡ Some new → (t : Fraction) (v : Position)
      → moment w.time ≤ᶠ t → t ≤ᶠ moment new.time → At (seq Linear ps) t v → HasValue Linear list t v
  between_from k w new e f t v from to h =
      let rise = S.valid.increasing in
      let l = one_leg k w new e f in
      let g = l.follows in
      let on = leg_local ps rise l.i l.a l.b g.a_listed g.b_listed t v (≤ᶠ_trans g.begin_on.begun from) (≤ᶠ_trans to g.end_on.not_over) h
      in
      record {
        i = k;
        at_i = inl (record {
          point = w;
          next = new;
          listed = e;
          next_listed = f;
          between = (part ps rise l.i l.a l.b w new g t v).1 (from, to, on);
        });
      }

  -- at the last listed instant
  last_from : (k : ℕ) (w : Vertex) → length list ≡ k + 1 → slice_get list k ≡ Some w → (t : Fraction) (v : Position) → moment w.time ≤ᶠ t
      → t ≤ᶠ moment w.time → At (seq Linear ps) t v → HasValue Linear list t v
  last_from zero w len e t v from to h =
      record { i = zero; at_i = inr (len, listed_from (seq Linear ps) p list S zero w t v e (linear_free w.time) (≈_from_≤ᶠ to from) h) }
  last_from (suc k) w len e t v from to h =
      let a = get_or list k w in
      let ea : slice_get list k ≡ Some a = slice_get-get_or list k w (omega arith) in
      let eb : slice_get list (k + 1) ≡ Some w = subst (λ (n : ℕ). slice_get list n ≡ Some w) (omega arith) e in
      let order = S.ascending k a w ea eb in
      between_from k a w ea eb t v (≤ᶠ_trans ((moment_le a.time w.time).0 (omega arith)) from) to h

  linear_from : (t : Fraction) (v : Position) → LiesIn t p → At (seq Linear ps) t v → HasValue Linear list t v
  linear_from t v lies h =
      let s = seq Linear ps in
      let within = around_of lies in
      let l = latest_of list t (listed_before s p list S linear_on t v within h) in
      let b = listed_behind s p list S linear_on t v within h in
      elim (cases_lt (l.i + 1) (length list)) [
        | inl more ↦
            let new = get_or list (l.i + 1) l.w in
            let f : slice_get list (l.i + 1) ≡ Some new = slice_get-get_or list (l.i + 1) l.w more in
            between_from l.i l.w new l.is.listed f t v l.is.reached (≤ᶠ_of_<ᶠ (l.is.later (l.i + 1) new (omega arith) f)) h
        | inr over ↦
            let order = not_later list S.ascending b.i l.i b.w l.w (omega (arith, slice_get_within list b.i b.w b.listed)) b.listed
            l.is.listed in
            last_from l.i l.w (omega (arith, slice_get_within list l.i l.w l.is.listed)) l.is.listed t v l.is.reached
            (≤ᶠ_trans b.reaches ((moment_le b.w.time l.w.time).0 order)) h
      ]

-- ---- all three
list_to : (interp : Interp) (ps : List Point) (p : Span) (list : List Vertex) → Samples (seq interp ps) p list
    → (t : Fraction) (v : Position)
    → HasValue interp list t v → BeforeOpenEnd p t → At (seq interp ps) t v
list_to Discrete ps p list S t v h before =
    let g = h.at_i in
    listed_to (seq Discrete ps) p list S h.i g.point t v g.listed (discrete_free ps p g.point.time) g.then g.there
list_to Step ps p list S t v h before = step_to ps p list S t v h before
list_to Linear ps p list S t v h before = linear_to ps p list S t v h

list_from : (interp : Interp) (ps : List Point) (p : Span) (list : List Vertex) → Samples (seq interp ps) p list
    → (t : Fraction) (v : Position)
    → LiesIn t p → At (seq interp ps) t v → HasValue interp list t v
list_from Discrete ps p list S t v lies h = discrete_from ps p list S t v lies h
list_from Step ps p list S t v lies h = step_from ps p list S t v lies h
list_from Linear ps p list S t v lies h = linear_from ps p list S t v lies h

-- ---- and from which instant to which
time_there : (list : List Vertex) (k : ℕ) (w : Vertex) → slice_get list k ≡ Some w → time_at list k ≡ w.time
time_there list k w e = ap (λ o. option_map_or (λ (u : Vertex). u.time) o 0) e

first_listed : (list : List Vertex) → 1 ≤ length list → (w : Vertex) × (slice_get list 0 ≡ Some w)
first_listed [] h = absurd (omega arith)
first_listed (w ∷ ws) h = (w, refl)

last_listed : (list : List Vertex) → 1 ≤ length list → (w : Vertex) × (slice_get list (length list - 1) ≡ Some w)
last_listed [] h = absurd (omega arith)
last_listed (w ∷ ws) h =
    let n = length (w ∷ ws) - 1 in (get_or (w ∷ ws) n w, slice_get-get_or (w ∷ ws) n w (omega arith))

not_empty : (list : List Vertex) (t : Fraction) → NotAfter list t → 1 ≤ length list
not_empty list t a = omega (arith, slice_get_within list a.i a.w a.listed)

from_first : (list : List Vertex) → Ascends list → (t : Fraction) → NotAfter list t → moment (time_at list 0) ≤ᶠ t
from_first list up t a =
    let f = first_listed list (not_empty list t a) in
    let order = not_later list up 0 a.i f.0 a.w (omega arith) f.1 a.listed in
    let same = time_there list 0 f.0 f.1 in
    ≤ᶠ_trans ((moment_le (time_at list 0) a.w.time).0 (omega (arith, order, same))) a.reached

to_last : (list : List Vertex) → Ascends list → (t : Fraction) → NotBefore list t → t ≤ᶠ moment (time_at list (length list - 1))
to_last list up t b =
    let within = slice_get_within list b.i b.w b.listed in
    let n = length list - 1 in
    let l = last_listed list (omega (arith, within)) in
    let order = not_later list up b.i n b.w l.0 (omega (arith, within)) b.listed l.1 in
    let same = time_there list n l.0 l.1 in
    ≤ᶠ_trans b.reaches ((moment_le b.w.time (time_at list n)).0 (omega (arith, order, same)))

-- an end of the list isn't in where it is an end of the period that isn't in
pub record AreMarked (p : Span) (list : List Vertex) (begin_in end_in : Bool) : Type 0 where
  pub begin_open : (begin_in ≡ false) ↔ ((p.begin_in ≡ false) × IsListedIn list p.begin)
  pub end_open : (end_in ≡ false) ↔ ((p.end_in ≡ false) × IsListedIn list p.end)

abbrev pub extent : List Vertex → Bool → Bool → Span
extent list begin_in end_in = record {
  begin = time_at list 0;
  end = time_at list (length list - 1);
  begin_in = begin_in;
  end_in = end_in;
}

module _ (s : Sequence) (p : Span) (list : List Vertex) (begin_in end_in : Bool) (S : Samples s p list)
    (M : AreMarked p list begin_in end_in) where
  after_open_begin : (t : Fraction) → LiesIn t (extent list begin_in end_in) → NotAfter list t → p.begin_in ≡ false → moment p.begin <ᶠ t
  after_open_begin t lies a not_in =
      let f = first_listed list (not_empty list t a) in
      let same = time_there list 0 f.0 f.1 in
      let from = (moment_le p.begin f.0.time).1 (in_period s p list S 0 f.0 f.1).begun in
      elim (cases_lt p.begin f.0.time) [
        | inl less ↦ <ᶠ-≤ᶠ ((moment_lt p.begin (time_at list 0)).0 (omega (arith, less, same))) lies.begun.not_after
        | inr over ↦
            let it : f.0.time ≡ p.begin = omega (arith, over, from) in
            let marked = M.begin_open.1 (not_in, record { i = 0; point = f.0; listed = f.1; then = it }) in
            subst (λ (n : ℕ). moment n <ᶠ t) (same ∙ it) (lies.begun.apart marked)
      ]

  before_open_end : (t : Fraction) → LiesIn t (extent list begin_in end_in) → NotAfter list t → BeforeOpenEnd p t
  before_open_end t lies a not_in =
      let n = length list - 1 in
      let l = last_listed list (not_empty list t a) in
      let same = time_there list n l.0 l.1 in
      let to = (moment_le l.0.time p.end).1 (in_period s p list S n l.0 l.1).not_over in
      elim (cases_lt l.0.time p.end) [
        | inl less ↦ ≤ᶠ-<ᶠ lies.not_over.not_after ((moment_lt (time_at list n) p.end).0 (omega (arith, less, same)))
        | inr over ↦
            let it : l.0.time ≡ p.end = omega (arith, over, to) in
            let marked = M.end_open.1 (not_in, record { i = n; point = l.0; listed = l.1; then = it }) in
            subst (λ (m : ℕ). t <ᶠ moment m) (same ∙ it) (lies.not_over.apart marked)
      ]

  lies_to : (t : Fraction) → LiesIn t (extent list begin_in end_in) → NotAfter list t → NotBefore list t → LiesIn t p
  lies_to t lies a b =
      record {
        begun = record {
          not_after = ≤ᶠ_trans (in_period s p list S a.i a.w a.listed).begun a.reached;
          apart = after_open_begin t lies a;
        };
        not_over = record {
          not_after = ≤ᶠ_trans b.reaches (in_period s p list S b.i b.w b.listed).not_over;
          apart = before_open_end t lies a;
        };
      }

  listed_at : (n : ℕ) → IsListedIn list n → NotAfter list (moment n) × NotBefore list (moment n)
  listed_at n l =
      let there = (moment_le n l.point.time).0 (omega (arith, l.then)) in
      let back = (moment_le l.point.time n).0 (omega (arith, l.then)) in (
        record { i = l.i; w = l.point; listed = l.listed; reached = back },
        record { i = l.i; w = l.point; listed = l.listed; reaches = there },
      )

  lies_from : (t : Fraction) → LiesIn t p → NotAfter list t → NotBefore list t → LiesIn t (extent list begin_in end_in)
  lies_from t lies a b =
      record {
        begun = record {
          not_after = from_first list S.ascending t a;
          apart = λ e.
              let open_begin = M.begin_open.0 e in
              ≤ᶠ-<ᶠ (from_first list S.ascending (moment p.begin) (listed_at p.begin open_begin.1).0) (lies.begun.apart open_begin.0);
        };
        not_over = record {
          not_after = to_last list S.ascending t b;
          apart = λ e.
              let open_end = M.end_open.0 e in
              <ᶠ-≤ᶠ (lies.not_over.apart open_end.0) (to_last list S.ascending (moment p.end) (listed_at p.end open_end.1).1);
        };
      }

  pub values : (t : Fraction) (v : Position)
      → (LiesIn t (extent list begin_in end_in) × HasValue s.interp list t v) ↔ (LiesIn t p × At s t v)
  values t v = (
    λ h.
        let a = begun_before s.interp list h.1.i t v h.1.at_i in
        let lies = lies_to t h.0 a (ended_after s.interp list h.1.i t v h.1.at_i) in
        (lies, list_to s.interp s.points p list S t v h.1 lies.not_over.apart),
    λ h.
        let value = list_from s.interp s.points p list S t v h.0 h.1 in
        let a = begun_before s.interp list value.i t v value.at_i in
        (lies_from t h.0 a (ended_after s.interp list value.i t v value.at_i), value),
  )
