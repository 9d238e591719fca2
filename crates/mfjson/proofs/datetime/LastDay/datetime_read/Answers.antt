use Rattle.std.proofs.Common.{refl, rules}
use Rattle.mfjson.proofs.DigitsLemmas.{none_without}
use Rattle.mfjson.proofs.SecondTexts.{of_20, of_24, short_exact, long_exact}
use Rattle.mfjson.proofs.datetime.LastDay.datetime_read.Goals as goal

pub returns-in_err-second_of-in-20-clause-exact : goal.returns-in_err-second_of-in-20-clause-exact
returns-in_err-second_of-in-20-clause-exact c t =
    rw c.from_residual.ensures (none_without _ _ t _ (λ is. (of_20 c.args.text.now t c.in-20.is is).front)
    (c.in_err-second_of-in-20.ensures.exact _))

pub returns-in_err-second-in-24-clause-exact : goal.returns-in_err-second-in-24-clause-exact
returns-in_err-second-in-24-clause-exact c t =
    rw c.from_residual-in_err-second-in-24.ensures (none_without _ _ t _ (λ is. (of_24 c.args.text.now t c.in-24.is is).front)
    (c.in_err-second-in-24.ensures.exact _))

pub returns-in_err-number-in-24-clause-exact : goal.returns-in_err-number-in-24-clause-exact
returns-in_err-number-in-24-clause-exact c t =
    rw c.from_residual-in_err-number-in-24.ensures (none_without _ _ t _ (λ is. (of_24 c.args.text.now t c.in-24.is is).milli)
    (c.in_err-number-in-24.ensures.exact _))

pub returns-in_ok-second_of-in-20-clause-exact : goal.returns-in_ok-second_of-in-20-clause-exact
returns-in_ok-second_of-in-20-clause-exact c t =
    rw c.instant.ensures (short_exact c.args.text.now _ c.in-20.is c.if-text-ne90.false c.in_ok-second_of-in-20.ensures.exact t)

pub returns-in_ok-number-in-24-clause-exact : goal.returns-in_ok-number-in-24-clause-exact
returns-in_ok-number-in-24-clause-exact c t =
    let is = (c.in_ok-number-in-24.ensures.exact _).1 refl in
    rw c.instant-in-24.ensures (long_exact c.args.text.now _ _ c.in-24.is c.if-text-ne46.false c.if-text-ne90-2.false is
    (search rules) c.in_ok-second-in-24.ensures.exact t)
