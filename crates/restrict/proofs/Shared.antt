-- Whether period and sequence share an instant, by the points in the period and the values at its ends.
use Rattle.std.proofs.Common.{◌≡◌, ◌≢◌, ℕ, ◌+◌, ◌≤◌, inl, inr, Bool, true, false, ◌||◌, List, [], ◌∷◌, map, length, slice_get, Option, Some}
use Rattle.std.proofs.Common.{None, nat_lt, sym, ◌∙◌, subst, refl, arith}
use Rattle.std.proofs.lemmas.Bool.{cases_lt}
use Rattle.std.proofs.lemmas.Bool.Decides.{nat_tests}
use Rattle.std.proofs.lemmas.Option.{slice_get_within, MatchOption-at_some}
use Rattle.tpoint.proofs.Fractions.{≤ᶠ_trans, ≤ᶠ_of_<ᶠ, ≤ᶠ_refl, <ᶠ-≤ᶠ, moment_le, moment_lt}
use Rattle.tpoint.proofs.Periods.{after_end, at_or_before, last_then, before_begin, before_then_up, up_then_before, begin_no_later}
use Rattle.tpoint.proofs.Periods.{begun_at, over_at, whole_lies, lies_same, early}
use Rattle.tpoint.proofs.PieceLemmas.{unmap}
use Rattle.tpoint.specs.Fraction.{Fraction, ◌≈◌, ◌≤ᶠ◌}
use Rattle.tpoint.specs.Moving.{Position, Vertex, HasValue, Sequence, At, IsValid, moment, vertex}
use Rattle.tpoint.specs.Extents.{Span, HasInstant, Before, LiesIn, Shares, first_whole, last_whole}
use Rattle.tpoint.specs.Pieces.{place}
use Rattle.tpoint.specs.declared.frac.Frac.{Frac}
use Rattle.tpoint.specs.declared.point.Point.{Point}
use Rattle.tpoint.specs.declared.interp.Interp.{Interp}
use Rattle.tpoint.specs.declared.interp.Interp.TheVariants.{Discrete, Step, Linear}
use Rattle.restrict.specs.Cuts.{HasValueAt, HasValueBefore}
use Rattle.restrict.specs.Inside.{AddsNone, IsAddedFirst, IsAddedLast, IsFirstPoint, IsInside, IsLast, tells_shared}
use Rattle.restrict.proofs.OwnValues.{own_value}
use Rattle.restrict.proofs.Spans.{NotAfter, NotBefore, begun_before, ended_after, fills, fills_of}

abbrev pub Triple : Type 0
Triple = ℕ × Frac × Frac

-- the points in the period, and what its ends add
pub record Ends (s : Sequence) (p : Span) (begin : Option Triple) (qs : List Point) (end : Option Triple) : Type 0 where
  pub valid : IsValid s
  pub has : HasInstant p
  pub inside : IsInside s.points p qs
  pub at_begin : IsAddedFirst s p qs begin
  pub at_end : IsAddedLast s p qs end

-- a value that is there at a listed instant alone
record AtVertex (list : List Vertex) (t : Fraction) : Type 0 where
  k : ℕ
  w : Vertex
  listed : slice_get list k ≡ Some w
  then : t ≈ moment w.time

at_vertex : (interp : Interp) (list : List Vertex) (t : Fraction) (v : Position) → interp ≡ Discrete → HasValue interp list t v
    → AtVertex list t
at_vertex Discrete list t v e h = record { k = h.i; w = h.at_i.point; listed = h.at_i.listed; then = h.at_i.then }
at_vertex Step list t v e h = absurd (cc)
at_vertex Linear list t v e h = absurd (cc)

module _ (s : Sequence) (valid : IsValid s) where
  -- from one instant with a value to another the sequence has values
  fill : s.interp ≢ Discrete → (t : Fraction) → NotAfter (map vertex s.points) t → NotBefore (map vertex s.points) t
      → (v : Position) × At s t v
  fill goes_on t a b = fills s.interp (fills_of s.interp goes_on) s.points valid.increasing t a b

  fill_at : s.interp ≢ Discrete → (n : ℕ) → NotAfter (map vertex s.points) (moment n) → NotBefore (map vertex s.points) (moment n)
      → HasValueAt s n
  fill_at goes_on n a b = let v = fill goes_on (moment n) a b in record { v = v.0; value = v.1 }

  begun : (t : Fraction) (v : Position) → At s t v → NotAfter (map vertex s.points) t
  begun t v h = begun_before s.interp (map vertex s.points) h.i t v h.at_i

  ended : (t : Fraction) (v : Position) → At s t v → NotBefore (map vertex s.points) t
  ended t v h = ended_after s.interp (map vertex s.points) h.i t v h.at_i

  later : (t u : Fraction) → t ≤ᶠ u → NotAfter (map vertex s.points) t → NotAfter (map vertex s.points) u
  later t u order a = record { i = a.i; w = a.w; listed = a.listed; reached = ≤ᶠ_trans a.reached order }

  sooner : (t u : Fraction) → t ≤ᶠ u → NotBefore (map vertex s.points) u → NotBefore (map vertex s.points) t
  sooner t u order b = record { i = b.i; w = b.w; listed = b.listed; reaches = ≤ᶠ_trans order b.reaches }

  -- where something is shared, and the sequence is there at the period's end, it is there at the last millisecond
  pub last_value : (p : Span) → HasInstant p → s.interp ≢ Discrete → Shares (At s) p → HasValueAt s p.end → HasValueAt s (last_whole p)
  last_value p has goes_on shared end =
      let a = begun shared.t shared.v shared.value in
      let b = ended (moment p.end) end.v end.value in
      let from = (over_at p a.w.time has).1 (up_then_before a.reached shared.in_period.not_over) in
      let to = last_then p (last_whole p) (omega arith) in
      fill_at goes_on (last_whole p)
      (record { i = a.i; w = a.w; listed = a.listed; reached = (moment_le a.w.time (last_whole p)).0 from })
      (sooner (moment (last_whole p)) (moment p.end) ((moment_le (last_whole p) p.end).0 to) b)

-- ---- the value just before an instant, of a Step sequence that goes on up to it
before_step : (ps : List Point) (m n : ℕ) (v : Position) → n ≡ m + 1 → At (record { interp = Step; points = ps }) (moment m) v
    → HasValueAt (record { interp = Step; points = ps }) n → HasValueBefore (record { interp = Step; points = ps }) n v
before_step ps m n v e h end =
    let g = h.at_i in
    let last = ended_after Step (map vertex ps) end.value.i (moment n) end.v end.value.at_i in
    record {
      from = moment m;
      earlier = (moment_lt m n).0 (omega (arith, e));
      held = λ t from to.
          record {
            i = h.i;
            at_i = record {
              point = g.point;
              listed = g.listed;
              reached = ≤ᶠ_trans g.reached from;
              not_left = λ j u k at.
                  let after = (moment_lt m u.time).1 (g.not_left j u k at) in
                  <ᶠ-≤ᶠ to ((moment_le n u.time).0 (omega (arith, e, after)));
              not_over = (last.i, last.w, last.listed, ≤ᶠ_trans (≤ᶠ_of_<ᶠ to) last.reaches);
              there = g.there;
            };
          };
    }

pub value_before : (s : Sequence) (m n : ℕ) (v : Position) → s.interp ≡ Step → n ≡ m + 1 → At s (moment m) v → HasValueAt s n
    → HasValueBefore s n v
value_before s m n v e next h end =
    let P : Interp → Type 0 = λ i. At (record { interp = i; points = s.points }) (moment m) v
    → HasValueAt (record { interp = i; points = s.points }) n → HasValueBefore (record { interp = i; points = s.points }) n v in
    subst P (sym e) (before_step s.points m n v next) h end

-- ---- what the ends tell
nothing_there : {A : Type 0} → (xs : List A) (k : ℕ) (x : A) → length xs ≡ 0 → ¬ (slice_get xs k ≡ Some x)
nothing_there xs k x none e = omega (arith, slice_get_within xs k x e, none)

or_false : (b : Bool) → b || false ≡ b
or_false true = refl
or_false false = refl

module _ (s : Sequence) (p : Span) (begin : Option Triple) (qs : List Point) (end : Option Triple) (E : Ends s p begin qs end) where
  pub begin_added : (u : Triple) → begin ≡ Some u → IsFirstPoint s p qs u
  begin_added u e = MatchOption-at_some _ _ u e E.at_begin

  pub end_added : (u : Triple) → end ≡ Some u → IsLast s p qs u
  end_added u e = MatchOption-at_some _ _ u e E.at_end

  -- a point in the period
  by_point : (k : ℕ) (q : Point) → slice_get qs k ≡ Some q → Shares (At s) p
  by_point k q e =
      let within = E.inside.in_period k q e in
      let own = own_value s E.valid (E.inside.first + k) q (E.inside.from_list k q e) in
      record { t = moment q.t; v = place q; in_period = (whole_lies p q.t E.has).0 within; value = own }

  -- an end that is in it
  by_begin : (u : Triple) → begin ≡ Some u → p.begin_in ≡ true → Shares (At s) p
  by_begin u e counts =
      let x = (begin_added u e).value in
      let here : Before true (moment p.begin) (moment p.begin) = at_or_before (≤ᶠ_refl (moment p.begin)) in
      record {
        t = moment p.begin;
        v = _;
        in_period = record {
          begun = subst (λ (b : Bool). Before b (moment p.begin) (moment p.begin)) (sym counts) here;
          not_over = (over_at p p.begin E.has).0 (begin_no_later p E.has);
        };
        value = x.1;
      }

  by_end : (u : Triple) → end ≡ Some u → p.end_in ≡ true → Shares (At s) p
  by_end u e counts =
      let x = (end_added u e).value.has_value in
      let first = early p E.has in
      let here : Before true (moment p.end) (moment p.end) = at_or_before (≤ᶠ_refl (moment p.end)) in
      record {
        t = moment p.end;
        v = x.v;
        in_period = record {
          begun = before_then_up first.1.begun first.1.not_over.not_after;
          not_over = subst (λ (b : Bool). Before b (moment p.end) (moment p.end)) (sym counts) here;
        };
        value = x.value;
      }

  -- what lies between the two
  by_both : (u w : Triple) → begin ≡ Some u → end ≡ Some w → Shares (At s) p
  by_both u w e f =
      let x = begin_added u e in
      let y = (end_added w f).value.has_value in
      let first = early p E.has in
      let a = later s E.valid (moment p.begin) first.0 first.2 (begun s E.valid (moment p.begin) _ x.value.1) in
      let b = sooner s E.valid first.0 (moment p.end) first.1.not_over.not_after (ended s E.valid (moment p.end) y.v y.value) in
      let v = fill s E.valid x.goes_on first.0 a b in
      record { t = first.0; v = v.0; in_period = first.1; value = v.1 }

  -- a value in the period, where no point is: there is one at each millisecond from the begin to the end
  no_point : length qs ≡ 0 → (k : ℕ) (q : Point) → slice_get s.points k ≡ Some q → ¬ LiesIn (moment q.t) p
  no_point none k q e lies =
      let within = (whole_lies p q.t E.has).1 lies in
      let x = E.inside.all k q e within.0 within.1 in
      nothing_there qs x.0 q none x.1

  not_discrete : length qs ≡ 0 → Shares (At s) p → s.interp ≢ Discrete
  not_discrete none shared e =
      let x = at_vertex s.interp (map vertex s.points) shared.t shared.v e shared.value in
      let f = unmap s.points x.k x.w x.listed in
      let P : Vertex → Type 0 = λ w. shared.t ≈ moment w.time in
      no_point none x.k f.0 f.1 (lies_same (subst P (sym f.2) x.then) shared.in_period)

  begins_by : length qs ≡ 0 → (shared : Shares (At s) p) → NotAfter (map vertex s.points) (moment p.begin)
  begins_by none shared =
      let a = begun s E.valid shared.t shared.v shared.value in
      let f = unmap s.points a.i a.w a.listed in
      let P : Vertex → Type 0 = λ w. moment w.time ≤ᶠ shared.t in
      let reached : moment f.0.t ≤ᶠ shared.t = subst P (sym f.2) a.reached in
      let Q : Vertex → Type 0 = λ w. slice_get (map vertex s.points) a.i ≡ Some w in
      elim (cases_lt f.0.t (first_whole p)) [
        | inl before ↦ record {
          i = a.i;
          w = vertex f.0;
          listed = subst Q (sym f.2) a.listed;
          reached = (moment_le f.0.t p.begin).0 (before_begin p f.0.t before);
        }
        | inr from ↦ absurd
            (no_point none a.i f.0 f.1
            (record { begun = (begun_at p f.0.t).0 from; not_over = up_then_before reached shared.in_period.not_over }))
      ]

  lasts_to : length qs ≡ 0 → (shared : Shares (At s) p) → NotBefore (map vertex s.points) (moment p.end)
  lasts_to none shared =
      let b = ended s E.valid shared.t shared.v shared.value in
      let f = unmap s.points b.i b.w b.listed in
      let P : Vertex → Type 0 = λ w. shared.t ≤ᶠ moment w.time in
      let reaches : shared.t ≤ᶠ moment f.0.t = subst P (sym f.2) b.reaches in
      let Q : Vertex → Type 0 = λ w. slice_get (map vertex s.points) b.i ≡ Some w in
      elim (cases_lt (last_whole p) f.0.t) [
        | inl after ↦ record {
          i = b.i;
          w = vertex f.0;
          listed = subst Q (sym f.2) b.listed;
          reaches = (moment_le p.end f.0.t).0 (after_end p f.0.t after);
        }
        | inr to ↦ absurd
            (no_point none b.i f.0 f.1
            (record { begun = before_then_up shared.in_period.begun reaches; not_over = (over_at p f.0.t E.has).0 to }))
      ]

  value_all_along : length qs ≡ 0 → Shares (At s) p → (n : ℕ) → p.begin ≤ n → n ≤ p.end → HasValueAt s n
  value_all_along none shared n from to =
      fill_at s E.valid (not_discrete none shared) n
      (later s E.valid (moment p.begin) (moment n) ((moment_le p.begin n).0 from) (begins_by none shared))
      (sooner s E.valid (moment n) (moment p.end) ((moment_le n p.end).0 to) (lasts_to none shared))

  adds_some : length qs ≡ 0 → Shares (At s) p → (n : ℕ) → p.begin ≤ n → n ≤ p.end → ¬ AddsNone s qs n
  adds_some none shared n from to adds =
      elim adds [
        | inl l ↦ nothing_there qs l.i l.point none l.listed
        | inr r ↦
            elim r [
              | inl discrete ↦ not_discrete none shared discrete
              | inr no_value ↦ no_value (value_all_along none shared n from to)
            ]
      ]

pub told_shared : (s : Sequence) (p : Span) (begin : Option Triple) (qs : List Point) (end : Option Triple) → Ends s p begin qs end
    → tells_shared p begin qs end ≡ true → Shares (At s) p
told_shared s p begin (q ∷ qs) end E e = by_point s p begin (q ∷ qs) end E 0 q refl
told_shared s p (Some u) [] (Some w) E e = by_both s p (Some u) [] (Some w) E u w refl refl
told_shared s p (Some u) [] None E e = by_begin s p (Some u) [] None E u refl (sym (or_false p.begin_in) ∙ e)
told_shared s p None [] (Some w) E e = by_end s p None [] (Some w) E w refl e
told_shared s p None [] None E e = absurd (cc)

pub shared_told : (s : Sequence) (p : Span) (begin : Option Triple) (qs : List Point) (end : Option Triple) → Ends s p begin qs end
    → Shares (At s) p → tells_shared p begin qs end ≡ true
shared_told s p begin (q ∷ qs) end E shared =
    let some : nat_lt 0 (length (q ∷ qs)) ≡ true = grind (arith, nat_tests) in rw some refl
shared_told s p (Some u) [] (Some w) E shared = refl
shared_told s p (Some u) [] None E shared =
    let order = E.has.ordered in
    elim E.at_end [
      | inl adds ↦ absurd (adds_some s p (Some u) [] None E refl shared p.end order (omega arith) adds)
      | inr r ↦
          elim r [
            | inl same ↦ or_false p.begin_in ∙ (E.has.one_instant same).0
            | inr no_value ↦
                let to = last_then p (last_whole p) (omega arith) in
                absurd (no_value (value_all_along s p (Some u) [] None E refl shared (last_whole p) (begin_no_later p E.has) to))
          ]
    ]
shared_told s p None [] end E shared =
    let order = E.has.ordered in
    absurd (adds_some s p None [] end E refl shared p.begin (omega arith) order E.at_begin)
