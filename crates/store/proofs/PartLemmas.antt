-- The part of a period from an instant on, or up to one.
use Rattle.std.proofs.Common.{◌≡◌, ◌∙◌, ℕ, ◌<◌, ◌≤◌, ◌↔◌, Bool, true, false, Option, Some, None, IsSome, IfSome, refl, sym, subst, arith}
use Rattle.tpoint.specs.Fraction.{Fraction, ◌≤ᶠ◌, ◌<ᶠ◌}
use Rattle.tpoint.specs.Moving.{moment}
use Rattle.tpoint.specs.Extents.{Span, HasInstant, LiesIn}
use Rattle.tpoint.proofs.Fractions.{≤ᶠ_trans, <ᶠ-≤ᶠ, ≤ᶠ-<ᶠ, moment_le, moment_lt}
use Rattle.tpoint.proofs.Periods.{at_or_before, strictly_before}
use Rattle.store.specs.Blocks.{IsPeriodOf}

-- a period that has an instant has one
not_false : (b : Bool) → ¬ (b ≡ false) → b ≡ true
not_false true n = refl
not_false false n = absurd (n refl)

lies_has : (t : Fraction) (p : Span) → LiesIn t p → HasInstant p
lies_has t p h =
    let order : (moment p.begin <ᶠ moment p.end) → p.begin < p.end = (moment_lt p.begin p.end).1 in
    record {
      ordered = (moment_le p.begin p.end).1 (≤ᶠ_trans h.begun.not_after h.not_over.not_after);
      one_instant = λ e. (
        not_false p.begin_in (λ f. let less = order (<ᶠ-≤ᶠ (h.begun.apart f) h.not_over.not_after) in omega (arith, less, e)),
        not_false p.end_in (λ f. let less = order (≤ᶠ-<ᶠ h.begun.not_after (h.not_over.apart f)) in omega (arith, less, e)),
      );
    }

-- a call that gives the period `made`, where that has an instant; and it is q
pub part_made : (P : Fraction → Type 0) (found : Option Span) (made q : Span) → made ≡ q → (IsSome found ↔ HasInstant made) →
    IfSome found (λ p. p ≡ made) → ((t : Fraction) → LiesIn t q ↔ P t) → IsPeriodOf found P
part_made P None made q e valid is same = λ t holds.
    let none = valid.1 (subst HasInstant (sym e) (lies_has t q ((same t).1 holds))) in absurd (cc)
part_made P (Some p) made q e valid is same = subst (λ (r : Span). (t : Fraction) → LiesIn t r ↔ P t) (sym (is ∙ e)) same

-- ---- from an instant on
pub all_from : (p : Span) (from : ℕ) → from ≤ p.begin → (t : Fraction) → LiesIn t p ↔ (LiesIn t p × (moment from ≤ᶠ t))
all_from p from h t = (λ l. (l, ≤ᶠ_trans ((moment_le from p.begin).0 h) l.begun.not_after), λ l. l.0)

pub rest_from : (p : Span) (from : ℕ) → p.begin < from → (t : Fraction) →
    LiesIn t (record { begin = from; end = p.end; begin_in = true; end_in = p.end_in }) ↔ (LiesIn t p × (moment from ≤ᶠ t))
rest_from p from h t = (
  λ l.
      let begun = strictly_before p.begin_in (<ᶠ-≤ᶠ ((moment_lt p.begin from).0 h) l.begun.not_after) in
      (record { begun = begun; not_over = l.not_over }, l.begun.not_after),
  λ l. record { begun = at_or_before l.1; not_over = l.0.not_over },
)

-- ---- up to an instant
pub all_to : (p : Span) (to : ℕ) → p.end ≤ to → (t : Fraction) → LiesIn t p ↔ (LiesIn t p × (t ≤ᶠ moment to))
all_to p to h t = (λ l. (l, ≤ᶠ_trans l.not_over.not_after ((moment_le p.end to).0 h)), λ l. l.0)

pub rest_to : (p : Span) (to : ℕ) → to < p.end → (t : Fraction) →
    LiesIn t (record { begin = p.begin; end = to; begin_in = p.begin_in; end_in = true }) ↔ (LiesIn t p × (t ≤ᶠ moment to))
rest_to p to h t = (
  λ l.
      let over = strictly_before p.end_in (≤ᶠ-<ᶠ l.not_over.not_after ((moment_lt to p.end).0 h)) in
      (record { begun = l.begun; not_over = over }, l.not_over.not_after),
  λ l. record { begun = l.0.begun; not_over = at_or_before l.1 },
)
