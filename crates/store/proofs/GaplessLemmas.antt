-- A sequence of steps or of legs has a value at each instant of its span.
use Rattle.std.proofs.Common.{◌≡◌, ℕ, zero, suc, ◌∙◌, ◌+◌, ◌-◌, ◌<◌, ◌≤◌, inl, inr, ◌↔◌, List, [], ◌∷◌}
use Rattle.std.proofs.Common.{length, get_or, slice_get, Some, sym, subst, refl, arith}
use Rattle.std.proofs.lemmas.Bool.{cases_lt, cases_eq}
use Rattle.std.proofs.lemmas.Option.{slice_get-get_or, slice_get_within, same_Some}
use Rattle.tpoint.specs.Fraction.{Fraction, ◌≈◌}
use Rattle.tpoint.specs.Moving.{Position, IsPositionOf, Sequence, At, IsValid, Rises, OnLeg, moment, vertex}
use Rattle.tpoint.specs.Pieces.{place}
use Rattle.tpoint.specs.Extents.{Span, HasInstant, Shares, first_whole, last_whole}
use Rattle.tpoint.specs.Spans.{span_of, HasValuesIn}
use Rattle.tpoint.specs.declared.point.Point.{Point}
use Rattle.tpoint.specs.declared.interp.Interp.{Interp}
use Rattle.tpoint.specs.declared.interp.Interp.TheVariants.{Discrete, Step, Linear}
use Rattle.tpoint.proofs.Fractions.{≈_refl, ≈_sym, ≈_from_≤ᶠ, ≤ᶠ_of_≈, ≤ᶠ-<ᶠ, moment_lt}
use Rattle.tpoint.proofs.PieceLemmas.{place_within, held_to, last_to, leg_to, leg_from, single_to, single_from, no_leg}
use Rattle.tpoint.proofs.Periods.{begun_at, over_at, whole_lies, before_then_up, up_then_before, before_begin, begin_no_later}
use Rattle.tpoint.proofs.SpanLemmas.{instant_there}
use Rattle.restrict.proofs.Latest.{not_after_or_after}
use Rattle.predicates.proofs.EndLemmas.{shares}
use Rattle.predicates.proofs.SequenceLemmas.{Whole}

pub is_place : (v : Position) → IsPositionOf v v
is_place v = record { same_x = ≈_refl v.x; same_y = ≈_refl v.y }

pub listed : (ps : List Point) (i : ℕ) → i < length ps → (p : Point) × (slice_get ps i ≡ Some p)
listed [] i within = absurd (omega arith)
listed (x ∷ xs) i within = (get_or (x ∷ xs) i x, slice_get-get_or (x ∷ xs) i x within)

-- ---- legs
-- a sequence of legs has a value in each period that begins no later than it ends, and ends no earlier than it begins
leg_shares : (ps : List Point) (p : Span) (i : ℕ) (a b : Point) → slice_get ps i ≡ Some a → slice_get ps (i + 1) ≡ Some b →
    Shares (OnLeg (vertex a) (vertex b)) p → Shares (Whole Linear ps) p
leg_shares ps p i a b e f s =
    record {
      t = s.t;
      v = s.v;
      in_period = s.in_period;
      value = record { i = i; at_i = leg_to ps i a b e f s.t s.v s.value };
    }

legs_share : (ps : List Point) (p : Span) (first : Point) → ((k : ℕ) → Rises ps k) → HasInstant p → slice_get ps 0 ≡ Some first →
    first.t ≤ last_whole p → (n : ℕ) (b : Point) → slice_get ps (n + 1) ≡ Some b → first_whole p ≤ b.t → Shares (Whole Linear ps) p
legs_share ps p first rise has e over zero b f begun =
    leg_shares ps p 0 first b e f (shares first b p (rise 0 first b e f) has begun over)
legs_share ps p first rise has e over (suc m) b g begun =
    let f : slice_get ps (m + 1 + 1) ≡ Some b = subst (λ (k : ℕ). slice_get ps k ≡ Some b) (omega arith) g in
    let a = get_or ps (m + 1) b in
    let there = slice_get-get_or ps (m + 1) b (omega (arith, slice_get_within ps (m + 1 + 1) b f)) in
    elim (cases_lt a.t (first_whole p)) [
      | inl less ↦
          let last = begin_no_later p has in
          let own = before_begin p a.t less in
          leg_shares ps p (m + 1) a b there f (shares a b p (rise (m + 1) a b there f) has begun (omega (arith, own, last)))
      | inr from ↦ legs_share ps p first rise has e over m a there from
    ]

-- and so has one point
point_shares : (ps : List Point) (p : Span) (first : Point) → HasInstant p → length ps ≡ 1 → slice_get ps 0 ≡ Some first →
    first_whole p ≤ first.t → first.t ≤ last_whole p → Shares (Whole Linear ps) p
point_shares ps p first has one e begun over =
    record {
      t = moment first.t;
      v = place first;
      in_period = (whole_lies p first.t has).0 (begun, over);
      value = record {
        i = 0;
        at_i = single_to ps 0 first one e (moment first.t) (place first)
            (record { then = ≈_refl (moment first.t); there = is_place (place first) });
      };
    }

linear_meets : (ps : List Point) (p : Span) → ((k : ℕ) → Rises ps k) → 1 ≤ length ps → HasInstant p → first_whole p ≤ (span_of ps).end →
    (span_of ps).begin ≤ last_whole p → Shares (Whole Linear ps) p
linear_meets ps p rise some has begun over =
    let n = length ps - 1 in
    let first = listed ps 0 (omega (arith, some)) in
    let last = listed ps n (omega (arith, some)) in
    let from : first.0.t ≤ last_whole p = subst (λ (k : ℕ). k ≤ last_whole p) (instant_there ps 0 first.0 first.1) over in
    let to : first_whole p ≤ last.0.t = subst (λ (k : ℕ). first_whole p ≤ k) (instant_there ps n last.0 last.1) begun in
    elim (cases_lt 1 (length ps)) [
      | inl more ↦
          let m = length ps - 2 in
          let at : slice_get ps (m + 1) ≡ Some last.0 = subst (λ (k : ℕ). slice_get ps k ≡ Some last.0) (omega (arith, more)) last.1 in
          legs_share ps p first.0 rise has first.1 from m last.0 at to
      | inr few ↦
          let one : length ps ≡ 1 = omega (arith, few, some) in
          let at : slice_get ps 0 ≡ Some last.0 = subst (λ (k : ℕ). slice_get ps k ≡ Some last.0) (omega (arith, one)) last.1 in
          let same = same_Some first.0 last.0 (sym first.1 ∙ at) in
          let to' : first_whole p ≤ first.0.t = subst (λ (q : Point). first_whole p ≤ q.t) (sym same) to in
          point_shares ps p first.0 has one first.1 to' from
    ]

-- ---- steps: there is a value wherever legs round the same points have one
step_at : (ps : List Point) (i : ℕ) (p : Point) → ((k : ℕ) → Rises ps k) → slice_get ps i ≡ Some p → (t : Fraction) → t ≈ moment p.t →
    Whole Step ps t (place p)
step_at ps i p rise e t then =
    elim (cases_lt (i + 1) (length ps)) [
      | inl more ↦
          let q = get_or ps (i + 1) p in
          let f = slice_get-get_or ps (i + 1) p more in
          record {
            i = i;
            at_i = held_to ps rise i p q e f t (place p)
                (record {
                  reached = ≤ᶠ_of_≈ (≈_sym then);
                  not_left = ≤ᶠ-<ᶠ (≤ᶠ_of_≈ then) ((moment_lt p.t q.t).0 (rise i p q e f));
                  there = is_place (place p);
                });
          }
      | inr over ↦
          record { i = i; at_i = last_to ps i p over e t (place p) (record { then = then; there = is_place (place p) }) }
    ]

step_on_leg : (ps : List Point) (i : ℕ) (p q : Point) → ((k : ℕ) → Rises ps k) → slice_get ps i ≡ Some p →
    slice_get ps (i + 1) ≡ Some q → (t : Fraction) (v : Position) → OnLeg (vertex p) (vertex q) t v →
    (w : Position) × Whole Step ps t w
step_on_leg ps i p q rise e f t v on =
    elim (not_after_or_after (moment q.t) t) [
      | inl at_end ↦ (place q, step_at ps (i + 1) q rise f t (≈_from_≤ᶠ on.not_over at_end))
      | inr less ↦ (
        place p,
        record {
          i = i;
          at_i = held_to ps rise i p q e f t (place p)
              (record { reached = on.begun; not_left = less; there = is_place (place p) });
        },
      )
    ]

step_there : (ps : List Point) → ((k : ℕ) → Rises ps k) → (t : Fraction) (v : Position) → Whole Linear ps t v →
    (w : Position) × Whole Step ps t w
step_there ps rise t v h =
    let own = listed ps h.i (place_within Linear ps h.i t v h.at_i) in
    let p = own.0 in
    elim (cases_lt (h.i + 1) (length ps)) [
      | inl more ↦
          let q = get_or ps (h.i + 1) p in
          let f = slice_get-get_or ps (h.i + 1) p more in
          step_on_leg ps h.i p q rise own.1 f t v (leg_from ps h.i p q more own.1 f t v h.at_i)
      | inr over ↦
          elim (cases_eq (length ps) 1) [
            | inl one ↦ (place p, step_at ps h.i p rise own.1 t (single_from ps h.i p one own.1 t v h.at_i).then)
            | inr many ↦ absurd (no_leg ps h.i over many t v h.at_i)
          ]
    ]

-- ---- both
meets : (interp : Interp) (ps : List Point) (p : Span) → ¬ (interp ≡ Discrete) → ((k : ℕ) → Rises ps k) → 1 ≤ length ps →
    HasInstant p → first_whole p ≤ (span_of ps).end → (span_of ps).begin ≤ last_whole p → Shares (Whole interp ps) p
meets Discrete ps p gapless rise some has begun over = absurd (gapless refl)
meets Step ps p gapless rise some has begun over =
    let s = linear_meets ps p rise some has begun over in
    let w = step_there ps rise s.t s.v s.value in
    record { t = s.t; v = w.0; in_period = s.in_period; value = w.1 }
meets Linear ps p gapless rise some has begun over = linear_meets ps p rise some has begun over

-- it has a value in the periods that begin no later than it ends, and end no earlier than it begins
pub there : (s : Sequence) (p : Span) → IsValid s → HasValuesIn s (span_of s.points) → ¬ (s.interp ≡ Discrete) → HasInstant p →
    ((first_whole p ≤ (span_of s.points).end) × ((span_of s.points).begin ≤ last_whole p)) ↔ Shares (At s) p
there s p valid spans gapless has = (
  λ both. meets s.interp s.points p gapless valid.increasing valid.not_empty has both.0 both.1,
  λ sh.
      let own = spans.within sh.t sh.v sh.value in (
        (begun_at p (span_of s.points).end).1 (before_then_up sh.in_period.begun own.not_over.not_after),
        (over_at p (span_of s.points).begin has).1 (up_then_before own.begun.not_after sh.in_period.not_over),
      ),
)
