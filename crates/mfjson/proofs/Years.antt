-- The years of instants.
use Rattle.std.proofs.Common.{◌≡◌, ℕ, ℤ, pos, negsuc, ◌<◌, ◌≤◌, refl, arith, inl, inr}
use Rattle.std.specs.Prelude.{◌<ℤ◌, ◌≤ℤ◌}
use Rattle.std.proofs.lemmas.Bool.{cases_lt}
use Rattle.jiff_core.specs.declared.civil.date.Date.{Date}
use Rattle.jiff_core.specs.Date.{epoch_day}
use Rattle.jiff_core.proofs.CalendarLemmas.{day_count-epoch, days_from_civil-day_count, day_count-lt_year}
use Rattle.jiff_core.proofs.DateLemmas.{civil}
use Rattle.jiff_core.proofs.SignedLemmas.{signed_arith}

late : (z : ℤ) → (z <ℤ pos 1970 → ⊥) → z ≤ℤ pos 9999 → (y : ℕ) × (z ≡ pos y) × (1970 ≤ y) × (y < 10000)
late (pos n) never high = elim (cases_lt n 1970) [
  | inl lt ↦ absurd (never (omega (arith, signed_arith)))
  | inr ge ↦ (n, refl, ge, omega (arith, signed_arith))
]
late (negsuc n) never high = absurd (never (omega (arith, signed_arith)))

not_before : (d : Date) → pos 0 ≤ℤ epoch_day d → d.year <ℤ pos 1970 → ⊥
not_before d late early =
    let fewer = day_count-lt_year d.year d.month d.day (pos 1970) 1 1 (civil d) (omega arith) early in
    let sums = days_from_civil-day_count d.year d.month d.day in
    omega (arith, signed_arith, day_count-epoch)

pub year_of : (d : Date) → pos 0 ≤ℤ epoch_day d → (y : ℕ) × (d.year ≡ pos y) × (1970 ≤ y) × (y < 10000)
year_of d h = late d.year (not_before d h) (d.year_in.1)
