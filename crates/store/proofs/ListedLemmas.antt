-- A sequence with values at its listed instants alone has one in a period where the first instant from the period's begin on is in it.
use Rattle.std.proofs.Common.{◌≡◌, ℕ, ◌<◌, ◌≤◌, ◌↔◌, inl, inr, List, length, slice_get, Some, sym, subst, arith}
use Rattle.std.proofs.lemmas.Bool.{cases_lt}
use Rattle.tpoint.specs.Moving.{Sequence, At, Rises, moment}
use Rattle.tpoint.specs.Places.{EachAt}
use Rattle.tpoint.specs.Pieces.{place}
use Rattle.tpoint.specs.Extents.{Span, HasInstant, Shares, first_whole, last_whole}
use Rattle.tpoint.specs.declared.point.Point.{Point}
use Rattle.tpoint.specs.declared.interp.Interp.{Interp}
use Rattle.tpoint.specs.declared.interp.Interp.TheVariants.{Discrete}
use Rattle.tpoint.proofs.Fractions.{≈_refl}
use Rattle.tpoint.proofs.Periods.{whole_lies, lies_same}
use Rattle.tpoint.proofs.PieceLemmas.{place_within, discrete_to, discrete_from, rises_le}
use Rattle.predicates.proofs.SequenceLemmas.{Whole}
use Rattle.store.proofs.GaplessLemmas.{is_place, listed}

pub listed_shares : (ps : List Point) (p : Span) (i : ℕ) (q : Point) → HasInstant p → slice_get ps i ≡ Some q → first_whole p ≤ q.t →
    q.t ≤ last_whole p → Shares (Whole Discrete ps) p
listed_shares ps p i q has e begun over =
    record {
      t = moment q.t;
      v = place q;
      in_period = (whole_lies p q.t has).0 (begun, over);
      value = record {
        i = i;
        at_i = discrete_to ps i q e (moment q.t) (place q) (record { then = ≈_refl (moment q.t); there = is_place (place q) });
      };
    }

-- where the n before it are earlier, the one at n is not after the period
pub first_listed : (ps : List Point) (p : Span) (from n : ℕ) → ((k : ℕ) → Rises ps k) → HasInstant p → from ≡ first_whole p →
    ((k : ℕ) → k < n → EachAt ps (λ (q : Point). q.t < from) k) → Shares (Whole Discrete ps) p →
    (n < length ps) × EachAt ps (λ (q : Point). q.t ≤ last_whole p) n
first_listed ps p from n rise has is earlier s =
    let j = s.value.i in
    let within = place_within Discrete ps j s.t s.v s.value.at_i in
    let own = listed ps j within in
    let then = (discrete_from ps j own.0 own.1 s.t s.v s.value.at_i).then in
    let lies = (whole_lies p own.0.t has).1 (lies_same then s.in_period) in
    elim (cases_lt j n) [
      | inl less ↦ let before = earlier j less own.0 own.1 in absurd (omega (arith, before, lies.0, is))
      | inr up ↦ (omega (arith, up, within), λ q e. let order = rises_le ps rise n j q own.0 up e own.1 in omega (arith, order, lies.1))
    ]

pub whole_shares : (s : Sequence) (ps : List Point) (p : Span) → s.interp ≡ Discrete → ps ≡ s.points →
    Shares (Whole Discrete ps) p ↔ Shares (At s) p
whole_shares s ps p i e = (
  λ h.
      subst (λ (k : Interp). Shares (Whole k s.points) p) (sym i) (subst (λ (qs : List Point). Shares (Whole Discrete qs) p) e h),
  λ h.
      subst (λ (qs : List Point). Shares (Whole Discrete qs) p) (sym e) (subst (λ (k : Interp). Shares (Whole k s.points) p) i h),
)
