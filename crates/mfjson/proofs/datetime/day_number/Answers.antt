use Rattle.std.proofs.Common.{◌≡◌, pos, refl, arith, ◌∙◌, sym}
use Rattle.std.proofs.lemmas.Int.{ints}
use Rattle.jiff_core.proofs.SignedLemmas.{signed_casts}
use Rattle.mfjson.proofs.DigitsLemmas.{none_exact, none_told, never_found}
use Rattle.mfjson.proofs.DateTexts.{date_numbers, date_exact, is_civil, small_numbers, asked, answered, day_of}
use Rattle.mfjson.proofs.datetime.day_number.Goals as goal

pub returns-in_err-year-clause-exact : goal.returns-in_err-year-clause-exact
returns-in_err-year-clause-exact c n =
    rw c.from_residual.ensures (none_exact _ n
    (λ is. never_found ((c.in_err-year.ensures.exact _ _ _).0 (date_numbers c.args.text.now n is))))

pub returns-in_default-clause-exact : goal.returns-in_default-clause-exact
returns-in_default-clause-exact c n =
    let text = c.args.text.now in
    let read = (c.in_ok-year.ensures.exact c.in_ok-year.year c.in_ok-year.month c.in_ok-year.day).1 refl in
    let small = small_numbers text _ _ _ c.requires c.in_ok-year.ensures.bound in
    none_told _ n (λ is. c.in_default.ensures.succeeds.1 (asked _ _ _ small (is_civil text _ _ _ read n is).0))

pub returns-then-day-lt0-clause-exact : goal.returns-then-day-lt0-clause-exact
returns-then-day-lt0-clause-exact c n =
    let text = c.args.text.now in
    let read = (c.in_ok-year.ensures.exact c.in_ok-year.year c.in_ok-year.month c.in_ok-year.day).1 refl in
    let small = small_numbers text _ _ _ c.requires c.in_ok-year.ensures.bound in
    let day = day_of c.in-Ok.date _ _ _ small c.in-Ok.ensures.value in
    none_exact _ n (λ is.
    let number = (is_civil text _ _ _ read n is).1 in
    let at_day : c.to_unix_epoch_day-day.result ≡ pos n = c.to_unix_epoch_day-day.ensures.value ∙ day ∙ number in
    omega (arith, signed_casts))

pub returns-clause-exact : goal.returns-clause-exact
returns-clause-exact c n =
    let text = c.args.text.now in
    let read = (c.in_ok-year.ensures.exact c.in_ok-year.year c.in_ok-year.month c.in_ok-year.day).1 refl in
    let small = small_numbers text _ _ _ c.requires c.in_ok-year.ensures.bound in
    let civil = answered _ _ _ small (c.in-Ok.ensures.succeeds.0 refl) in
    let day = day_of c.in-Ok.date _ _ _ small c.in-Ok.ensures.value in
    let number : c.to_unix_epoch_day-day.result ≡ pos c.unsigned_abs.result = grind (arith, ints) in
    date_exact text _ _ _ c.requires read civil _ (sym day ∙ sym c.to_unix_epoch_day-day.ensures.value ∙ number) n
