-- Periods: which instants are in them.
use Rattle.std.proofs.Common.{◌≡◌, ℕ, ◌+◌, ◌-◌, ◌*◌, ◌<◌, ◌≤◌, ◌↔◌, inl, inr, pos, Bool, true, false, if◌then◌else◌, sym, subst, refl}
use Rattle.std.proofs.Common.{arith, lit≤}
use Rattle.std.proofs.lemmas.Bool.{cases_lt}
use Rattle.std.proofs.lemmas.Int.{ints}
use Rattle.tpoint.specs.Fraction.{Fraction, ◌≈◌, ◌≤ᶠ◌, ◌<ᶠ◌}
use Rattle.tpoint.specs.Moving.{moment}
use Rattle.tpoint.specs.Extents.{Span, HasInstant, Before, LiesIn, first_whole, last_whole}
use Rattle.tpoint.proofs.Fractions.{≤ᶠ_trans, ≤ᶠ_of_<ᶠ, ≤ᶠ_refl, ≤ᶠ_of_≈, ≈_sym, ≤ᶠ-<ᶠ, <ᶠ-≤ᶠ, moment_le, moment_lt}

-- ---- orders
pub at_or_before : {a b : Fraction} → a ≤ᶠ b → Before true a b
at_or_before h = record { not_after = h; apart = λ e. absurd (cc) }

pub strictly_before : (counts : Bool) {a b : Fraction} → a <ᶠ b → Before counts a b
strictly_before counts h = record { not_after = ≤ᶠ_of_<ᶠ h; apart = λ _. h }

pub before_then_up : {s : Bool} {a b c : Fraction} → Before s a b → b ≤ᶠ c → Before s a c
before_then_up h k = record { not_after = ≤ᶠ_trans h.not_after k; apart = λ e. <ᶠ-≤ᶠ (h.apart e) k }

pub up_then_before : {s : Bool} {a b c : Fraction} → a ≤ᶠ b → Before s b c → Before s a c
up_then_before h k = record { not_after = ≤ᶠ_trans h k.not_after; apart = λ e. ≤ᶠ-<ᶠ h (k.apart e) }

-- ---- the whole instants of a period
pub begun_whole : (counts : Bool) (b n : ℕ) → ((if counts then b else b + 1) ≤ n) ↔ Before counts (moment b) (moment n)
begun_whole true b n = (λ h. at_or_before ((moment_le b n).0 h), λ h. (moment_le b n).1 h.not_after)
begun_whole false b n = (
  λ h. strictly_before false ((moment_lt b n).0 (omega (arith, h))),
  λ h. let less = (moment_lt b n).1 (h.apart refl) in omega (arith, less),
)

-- where an end that isn't in is not 0
pub over_whole : (counts : Bool) (n e : ℕ) → (counts ≡ false → 1 ≤ e)
    → (n ≤ (if counts then e else e - 1)) ↔ Before counts (moment n) (moment e)
over_whole true n e some = (λ h. at_or_before ((moment_le n e).0 h), λ h. (moment_le n e).1 h.not_after)
over_whole false n e some = (
  λ h. strictly_before false ((moment_lt n e).0 (omega (arith, h, some refl))),
  λ h. let less = (moment_lt n e).1 (h.apart refl) in omega (arith, less),
)

-- an end that isn't in comes after the begin
pub open_end : (p : Span) → HasInstant p → p.end_in ≡ false → p.begin < p.end
open_end p h e =
    elim (cases_lt p.begin p.end) [
      | inl less ↦ less
      | inr over ↦ let in_it = (h.one_instant (omega (arith, over, h.ordered))).1 in absurd (cc)
    ]

pub open_begin : (p : Span) → HasInstant p → p.begin_in ≡ false → p.begin < p.end
open_begin p h e =
    elim (cases_lt p.begin p.end) [
      | inl less ↦ less
      | inr over ↦ let in_it = (h.one_instant (omega (arith, over, h.ordered))).0 in absurd (cc)
    ]

pub begun_at : (p : Span) (n : ℕ) → (first_whole p ≤ n) ↔ Before p.begin_in (moment p.begin) (moment n)
begun_at p n = begun_whole p.begin_in p.begin n

pub over_at : (p : Span) (n : ℕ) → HasInstant p → (n ≤ last_whole p) ↔ Before p.end_in (moment n) (moment p.end)
over_at p n h = over_whole p.end_in n p.end (λ e. let less = open_end p h e in omega (arith, less))

pub whole_lies : (p : Span) (n : ℕ) → HasInstant p → ((first_whole p ≤ n) × (n ≤ last_whole p)) ↔ LiesIn (moment n) p
whole_lies p n h = (
  λ k. record { begun = (begun_at p n).0 k.0; not_over = (over_at p n h).0 k.1 },
  λ k. ((begun_at p n).1 k.begun, (over_at p n h).1 k.not_over),
)

-- ---- an instant is in a period however its fraction is written
pub lies_same : {s t : Fraction} {p : Span} → s ≈ t → LiesIn s p → LiesIn t p
lies_same e h =
    record { begun = before_then_up h.begun (≤ᶠ_of_≈ e); not_over = up_then_before (≤ᶠ_of_≈ (≈_sym e)) h.not_over }

-- what lies between two instants of a period is in it
pub lies_between : {s t u : Fraction} {p : Span} → LiesIn s p → s ≤ᶠ t → t ≤ᶠ u → LiesIn u p → LiesIn t p
lies_between from h k to =
    record { begun = before_then_up from.begun h; not_over = up_then_before k to.not_over }

-- ---- a period has an instant in the first millisecond from its begin
half_past : ℕ → Fraction
half_past n = record { num = pos (2 * n + 1); den = 2; at_least_one = lit≤ tt }

after_whole : (n : ℕ) → moment n <ᶠ half_past n
unfolding half_past
after_whole n = record { cross = omega (arith, ints) }

before_next : (m n : ℕ) → m < n → half_past m <ᶠ moment n
unfolding half_past
before_next m n h = record { cross = omega (arith, ints, h) }

pub early : (p : Span) → HasInstant p → (t : Fraction) × LiesIn t p × (moment p.begin ≤ᶠ t) × (t <ᶠ moment (p.begin + 1))
early p h =
    elim (cases_lt p.begin p.end) [
      | inl less ↦
          let from = after_whole p.begin in (
            half_past p.begin,
            record { begun = strictly_before p.begin_in from; not_over = strictly_before p.end_in (before_next p.begin p.end less) },
            ≤ᶠ_of_<ᶠ from,
            before_next p.begin (p.begin + 1) (omega arith),
          )
      | inr over ↦
          let same : p.begin ≡ p.end = omega (arith, over, h.ordered) in
          let both = h.one_instant same in
          let here : Before true (moment p.begin) (moment p.begin) = at_or_before (≤ᶠ_refl (moment p.begin)) in
          let begun = subst (λ (b : Bool). Before b (moment p.begin) (moment p.begin)) (sym both.0) here in
          let there = subst (λ (n : ℕ). Before true (moment p.begin) (moment n)) same here in
          let not_over = subst (λ (b : Bool). Before b (moment p.begin) (moment p.end)) (sym both.1) there in (
            moment p.begin,
            record { begun = begun; not_over = not_over },
            ≤ᶠ_refl (moment p.begin),
            (moment_lt p.begin (p.begin + 1)).0 (omega arith),
          )
    ]

-- ---- its begin among the whole instants
before_first : (counts : Bool) (b n : ℕ) → n < (if counts then b else b + 1) → n ≤ b
before_first true b n h = omega (arith, h)
before_first false b n h = omega (arith, h)

pub before_begin : (p : Span) (n : ℕ) → n < first_whole p → n ≤ p.begin
before_begin p n h = before_first p.begin_in p.begin n h

from_first : (counts : Bool) (b n : ℕ) → (if counts then b else b + 1) ≤ n → b ≤ n
from_first true b n h = h
from_first false b n h = omega (arith, h)

pub first_then : (p : Span) (n : ℕ) → first_whole p ≤ n → p.begin ≤ n
first_then p n h = from_first p.begin_in p.begin n h

pub begin_no_later : (p : Span) → HasInstant p → p.begin ≤ last_whole p
begin_no_later p has =
    let first = early p has in (over_at p p.begin has).1 (up_then_before first.2 first.1.not_over)

-- ---- its end among them
to_last : (counts : Bool) (e n : ℕ) → n ≤ (if counts then e else e - 1) → n ≤ e
to_last true e n h = h
to_last false e n h = omega (arith, h)

pub last_then : (p : Span) (n : ℕ) → n ≤ last_whole p → n ≤ p.end
last_then p n h = to_last p.end_in p.end n h

after_last : (counts : Bool) (e n : ℕ) → (if counts then e else e - 1) < n → e ≤ n
after_last true e n h = omega (arith, h)
after_last false e n h = omega (arith, h)

pub after_end : (p : Span) (n : ℕ) → last_whole p < n → p.end ≤ n
after_end p n h = after_last p.end_in p.end n h

next_after : (counts : Bool) (e : ℕ) → counts ≡ false → 1 ≤ e → e ≡ (if counts then e else e - 1) + 1
next_after true e h some = absurd (cc)
next_after false e h some = omega (arith, some)

-- an end that isn't in comes a millisecond after the last one that is
pub end_after_last : (p : Span) → HasInstant p → p.end_in ≡ false → p.end ≡ last_whole p + 1
end_after_last p has h = let less = open_end p has h in next_after p.end_in p.end h (omega (arith, less))
