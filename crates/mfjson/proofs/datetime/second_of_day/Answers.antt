use Rattle.std.proofs.Common.{refl, arith}
use Rattle.mfjson.proofs.DigitsLemmas.{none_exact, never_found}
use Rattle.mfjson.proofs.ClockTexts.{clock_numbers, clock_exact, clock_range}
use Rattle.mfjson.proofs.datetime.second_of_day.Goals as goal

pub returns-in_err-hour-clause-exact : goal.returns-in_err-hour-clause-exact
returns-in_err-hour-clause-exact c n =
    rw c.from_residual.ensures (none_exact _ n
    (λ is. never_found ((c.in_err-hour.ensures.exact _ _ _).0 (clock_numbers c.args.text.now n is))))

pub returns-then-hour-gt23-clause-exact : goal.returns-then-hour-gt23-clause-exact
returns-then-hour-gt23-clause-exact c n =
    let read = (c.in_ok-hour.ensures.exact c.in_ok-hour.hour c.in_ok-hour.minute c.in_ok-hour.second).1 refl in
    none_exact _ n (λ is.
    let r = clock_range c.args.text.now _ _ _ read n is in
    omega (arith, c.then-hour-gt23.either, r.hours, r.minutes, r.seconds))

pub returns-clause-exact : goal.returns-clause-exact
returns-clause-exact c n =
    let read = (c.in_ok-hour.ensures.exact c.in_ok-hour.hour c.in_ok-hour.minute c.in_ok-hour.second).1 refl in
    clock_exact c.args.text.now _ _ _ c.requires read (omega arith) (omega arith) (omega arith) n
