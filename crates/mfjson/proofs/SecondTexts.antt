-- The texts of a second, and of an instant.
use Rattle.std.proofs.Common.{◌≡◌, ℕ, pos, ◌+◌, ◌*◌, ◌/◌, ◌%◌, ◌<◌, List, [], ◌∷◌, ◌++◌, length, get_or, Some, ◌↔◌, ◌⊎◌, inl, inr, subst}
use Rattle.std.proofs.Common.{refl, arith, ap, sym, ◌∙◌, append-nil}
use Rattle.std.specs.List.{slice_range}
use Rattle.std.proofs.lemmas.Option.{same_Some}
use Rattle.jiff_core.specs.Calendar.{IsCivilDate, days_from_civil}
use Rattle.mfjson.specs.Digits.{digits, IsNumber}
use Rattle.mfjson.specs.Datetime.{date_text, clock_text, IsDateText, IsClockText, IsSecondText, IsSpelled, IsDatetime, IsShortDatetime}
use Rattle.mfjson.specs.Datetime.{ReadsAs}
use Rattle.mfjson.proofs.DigitsLemmas.{number_spelling, number_is, number_unique, part_length, drop_part, drop_byte, drop_end}

-- ---- a second
pub record HasSecondParts (text : List ℕ) (second : ℕ) : Type 0 where
  pub date : IsDateText (slice_range text 0 10) (second / 86400)
  pub mark : get_or text 10 0 ≡ 84
  pub clock : IsClockText (slice_range text 11 19) (second % 86400)

whole : (text : List ℕ) (second : ℕ) → (is : IsSecondText text second) →
    text ≡ date_text is.is_date.year is.is_date.month is.is_date.day ++ (84 ∷ clock_text (second % 86400))
whole text second is = is.spelling ∙ ap (λ d. d ++ (84 ∷ is.clock)) is.is_date.spelling
    ∙ ap (λ k. date_text is.is_date.year is.is_date.month is.is_date.day ++ (84 ∷ k)) is.is_clock.spelling

pub second_parts : (text : List ℕ) (second : ℕ) → IsSecondText text second → HasSecondParts text second
second_parts text second is =
    let e = whole text second is in
    let date : slice_range text 0 10 ≡ is.date = ap (λ t. slice_range t 0 10) e ∙ sym is.is_date.spelling in
    let clock : slice_range text 11 19 ≡ is.clock = ap (λ t. slice_range t 11 19) e ∙ sym is.is_clock.spelling in
    record {
      date = subst (λ d. IsDateText d (second / 86400)) (sym date) is.is_date;
      mark = ap (λ t. get_or t 10 0) e;
      clock = subst (λ k. IsClockText k (second % 86400)) (sym clock) is.is_clock;
    }

pub second_length : (text : List ℕ) (second : ℕ) → IsSecondText text second → length text ≡ 19
second_length text second is = ap length (whole text second is)

cut : (text : List ℕ) → length text ≡ 19 → get_or text 10 0 ≡ 84 →
    text ≡ slice_range text 0 10 ++ (84 ∷ slice_range text 11 19)
cut text h mark =
    drop_part text 0 10 _ (omega arith) (drop_byte text 10 84 _ (omega arith) mark
    (drop_part text 11 19 _ (omega arith) (drop_end text 19 h)))
    ∙ ap (λ k. slice_range text 0 10 ++ (84 ∷ k)) (append-nil (slice_range text 11 19))

pub second_exact : (text : List ℕ) (day clock : ℕ) → length text ≡ 19 → get_or text 10 0 ≡ 84 → clock < 86400 →
    ((n : ℕ) → IsDateText (slice_range text 0 10) n ↔ (Some day ≡ Some n)) →
    ((n : ℕ) → IsClockText (slice_range text 11 19) n ↔ (Some clock ≡ Some n)) → (t : ℕ) →
    IsSecondText text t ↔ (Some (day * 86400 + clock) ≡ Some t)
second_exact text day clock h mark low is_day is_clock t =
    let n : ℕ = day * 86400 + clock in
    let days : day ≡ n / 86400 = omega (arith, low) in
    let clocks : clock ≡ n % 86400 = omega (arith, low) in (
      λ is.
          let p = second_parts text t is in
          let d = same_Some _ _ ((is_day _).0 p.date) in
          let k = same_Some _ _ ((is_clock _).0 p.clock) in
          ap Some (omega (arith, d, k)),
      λ e.
          let made : IsSecondText text n = record {
            date = slice_range text 0 10;
            clock = slice_range text 11 19;
            is_date = subst (IsDateText (slice_range text 0 10)) days ((is_day day).1 refl);
            is_clock = subst (IsClockText (slice_range text 11 19)) clocks ((is_clock clock).1 refl);
            spelling = cut text h mark;
          } in
          subst (IsSecondText text) (same_Some n t e) made,
    )

-- ---- an instant
front_of : (text : List ℕ) (t : ℕ) (fraction : List ℕ) → (is : IsSpelled text t fraction) →
    slice_range text 0 19 ≡ is.front
front_of text t fraction is =
    let e = is.spelling ∙ ap (λ f. f ++ (fraction ++ 90 ∷ [])) (whole is.front (t / 1000) is.is_front) in
    ap (λ x. slice_range x 0 19) e ∙ sym (whole is.front (t / 1000) is.is_front)

pub record HasShortParts (text : List ℕ) (t : ℕ) : Type 0 where
  pub long : length text ≡ 20
  pub front : IsSecondText (slice_range text 0 19) (t / 1000)
  pub zone : get_or text 19 0 ≡ 90
  pub milli : t % 1000 ≡ 0

pub short_parts : (text : List ℕ) (t : ℕ) → IsShortDatetime text t → HasShortParts text t
short_parts text t short =
    let is = short.spelling in
    let e = is.spelling ∙ ap (λ f. f ++ (90 ∷ [])) (whole is.front (t / 1000) is.is_front) in
    record {
      long = ap length e;
      front = subst (λ f. IsSecondText f (t / 1000)) (sym (front_of text t [] is)) is.is_front;
      zone = ap (λ x. get_or x 19 0) e;
      milli = short.whole_second;
    }

pub record HasLongParts (text : List ℕ) (t : ℕ) : Type 0 where
  pub long : length text ≡ 24
  pub front : IsSecondText (slice_range text 0 19) (t / 1000)
  pub point : get_or text 19 0 ≡ 46
  pub milli : IsNumber (slice_range text 20 23) (t % 1000)
  pub zone : get_or text 23 0 ≡ 90

pub long_parts : (text : List ℕ) (t : ℕ) → IsDatetime text t → HasLongParts text t
long_parts text t is =
    let e = is.spelling ∙ ap (λ f. f ++ ((46 ∷ digits 3 (t % 1000)) ++ 90 ∷ [])) (whole is.front (t / 1000) is.is_front) in
    record {
      long = ap length e;
      front = subst (λ f. IsSecondText f (t / 1000)) (sym (front_of text t (46 ∷ digits 3 (t % 1000)) is)) is.is_front;
      point = ap (λ x. get_or x 19 0) e;
      milli = number_is _ 3 _ (omega arith) (ap (λ x. slice_range x 20 23) e);
      zone = ap (λ x. get_or x 23 0) e;
    }

pub either_length : (text : List ℕ) (t : ℕ) → ReadsAs text t → (length text ≡ 20) ⊎ (length text ≡ 24)
either_length text t (inl is) = inr (long_parts text t is).long
either_length text t (inr is) = inl (short_parts text t is).long

pub of_20 : (text : List ℕ) (t : ℕ) → length text ≡ 20 → ReadsAs text t → HasShortParts text t
of_20 text t h (inl is) = absurd (omega (arith, h, (long_parts text t is).long))
of_20 text t h (inr is) = short_parts text t is

pub of_24 : (text : List ℕ) (t : ℕ) → length text ≡ 24 → ReadsAs text t → HasLongParts text t
of_24 text t h (inl is) = long_parts text t is
of_24 text t h (inr is) = absurd (omega (arith, h, (short_parts text t is).long))

-- a text of 20 bytes is this instant's alone
pub short_exact : (text : List ℕ) (second : ℕ) → length text ≡ 20 → get_or text 19 0 ≡ 90 →
    ((n : ℕ) → IsSecondText (slice_range text 0 19) n ↔ (Some second ≡ Some n)) → (t : ℕ) →
    ReadsAs text t ↔ (Some (second * 1000 + 0) ≡ Some t)
short_exact text second h zone is_second t =
    let seconds : second ≡ (second * 1000 + 0) / 1000 = omega arith in (
      λ is.
          let p = of_20 text t h is in
          let s = same_Some _ _ ((is_second _).0 p.front) in
          let m = p.milli in
          ap Some (omega (arith, s, m)),
      λ e. subst (ReadsAs text) (same_Some _ t e) (inr (record {
        whole_second = omega arith;
        spelling = record {
          front = slice_range text 0 19;
          is_front = subst (IsSecondText (slice_range text 0 19)) seconds ((is_second second).1 refl);
          spelling = drop_part text 0 19 _ (omega arith) (drop_byte text 19 90 _ (omega arith) zone (drop_end text 20 h));
        };
      })),
    )

-- a text of 24 bytes is this instant's alone
pub long_exact : (text : List ℕ) (second milli : ℕ) → length text ≡ 24 → get_or text 19 0 ≡ 46 →
    get_or text 23 0 ≡ 90 → IsNumber (slice_range text 20 23) milli → milli < 1000 →
    ((n : ℕ) → IsSecondText (slice_range text 0 19) n ↔ (Some second ≡ Some n)) → (t : ℕ) →
    ReadsAs text t ↔ (Some (second * 1000 + milli) ≡ Some t)
long_exact text second milli h point zone is_milli low is_second t =
    let n : ℕ = second * 1000 + milli in
    let seconds : second ≡ n / 1000 = omega (arith, low) in
    let millis : milli ≡ n % 1000 = omega (arith, low) in
    let fraction = number_spelling (slice_range text 20 23) 3 milli (part_length text 20 23 (omega arith) (omega arith)
    ∙ omega arith) is_milli in
    let all : text ≡ slice_range text 0 19 ++ (46 ∷ (slice_range text 20 23 ++ (90 ∷ []))) =
    drop_part text 0 19 _ (omega arith) (drop_byte text 19 46 _ (omega arith) point
    (drop_part text 20 23 _ (omega arith) (drop_byte text 23 90 _ (omega arith) zone (drop_end text 24 h)))) in
    let spelling : text ≡ slice_range text 0 19 ++ (46 ∷ (digits 3 (n % 1000) ++ (90 ∷ []))) =
    all ∙ ap (λ f. slice_range text 0 19 ++ (46 ∷ (f ++ (90 ∷ [])))) (fraction ∙ ap (digits 3) millis) in (
      λ is.
          let p = of_24 text t h is in
          let s = same_Some _ _ ((is_second _).0 p.front) in
          let m = number_unique _ _ _ is_milli p.milli in
          ap Some (omega (arith, s, m)),
      λ e. subst (ReadsAs text) (same_Some n t e) (inl (record {
        front = slice_range text 0 19;
        is_front = subst (IsSecondText (slice_range text 0 19)) seconds ((is_second second).1 refl);
        spelling = spelling;
      })),
    )

-- a date, a second and a millisecond make the text of an instant
pub datetime_made : (text : List ℕ) (t year month day : ℕ) → IsCivilDate (pos year) month day →
    days_from_civil (pos year) month day ≡ pos (t / 1000 / 86400) →
    text ≡ date_text year month day ++ (84 ∷ (clock_text (t / 1000 % 86400) ++ ((46 ∷ digits 3 (t % 1000)) ++ (90 ∷ [])))) →
    IsDatetime text t
datetime_made text t year month day civil number e =
    record {
      front = date_text year month day ++ (84 ∷ clock_text (t / 1000 % 86400));
      is_front = record {
        date = date_text year month day;
        clock = clock_text (t / 1000 % 86400);
        is_date = record { year = year; month = month; day = day; date = civil; day_number = number; spelling = refl };
        is_clock = record { in_a_day = omega arith; spelling = refl };
        spelling = refl;
      };
      spelling = e;
    }
