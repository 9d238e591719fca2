-- The texts of a second of the day.
use Rattle.std.proofs.Common.{◌≡◌, ℕ, ◌+◌, ◌*◌, ◌/◌, ◌%◌, ◌<◌, List, length, Some, ◌↔◌, subst, arith, ap}
use Rattle.std.specs.List.{slice_range}
use Rattle.std.proofs.lemmas.Option.{same_Some}
use Rattle.mfjson.specs.Digits.{AreNumbers}
use Rattle.mfjson.specs.Datetime.{clock_text, IsClockText}
use Rattle.mfjson.proofs.ThreeNumbers.{numbers_made, numbers_spelled, numbers_unique}

-- the three numbers of the text of a second
abbrev pub ClockNumbers : List ℕ → ℕ → ℕ → ℕ → Type 0
ClockNumbers text = AreNumbers 58 (slice_range text 0 2) (slice_range text 2 8)

pub clock_numbers : (text : List ℕ) (second : ℕ) → IsClockText text second →
    ClockNumbers text (second / 3600) (second / 60 % 60) (second % 60)
clock_numbers text second is =
    numbers_made 2 58 _ _ _ _ _ (ap (λ t. slice_range t 0 2) is.spelling) (ap (λ t. slice_range t 2 8) is.spelling)
    (omega (arith, is.in_a_day)) (omega arith) (omega arith)

-- it is the text of this second alone
pub clock_exact : (text : List ℕ) (hour minute second : ℕ) → length text ≡ 8 → ClockNumbers text hour minute second →
    hour < 24 → minute < 60 → second < 60 → (t : ℕ) → IsClockText text t ↔ (Some (hour * 3600 + minute * 60 + second) ≡ Some t)
clock_exact text hour minute second long r a b c t =
    let n : ℕ = hour * 3600 + minute * 60 + second in
    let hours : n / 3600 ≡ hour = omega (arith, a, b, c) in
    let minutes : n / 60 % 60 ≡ minute = omega (arith, a, b, c) in
    let seconds : n % 60 ≡ second = omega (arith, a, b, c) in
    let text_is : text ≡ clock_text n = rw (hours, minutes, seconds) (numbers_spelled 2 58 text hour minute second long r) in (
      λ is.
          let same = numbers_unique r (clock_numbers text t is) in
          ap Some (omega (arith, same.first, same.second, same.third)),
      λ e. subst (IsClockText text) (same_Some n t e) (record { in_a_day = omega (arith, a, b, c); spelling = text_is }),
    )

-- what was read of the text of a second is in range
pub record IsInRange (hour minute second : ℕ) : Type 0 where
  pub hours : hour < 24
  pub minutes : minute < 60
  pub seconds : second < 60

pub clock_range : (text : List ℕ) (hour minute second : ℕ) → ClockNumbers text hour minute second → (t : ℕ) →
    IsClockText text t → IsInRange hour minute second
clock_range text hour minute second r t is =
    let same = numbers_unique r (clock_numbers text t is) in
    record {
      hours = omega (arith, same.first, is.in_a_day);
      minutes = omega (arith, same.second);
      seconds = omega (arith, same.third);
    }
