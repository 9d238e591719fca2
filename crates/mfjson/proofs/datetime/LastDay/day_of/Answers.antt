use Rattle.std.proofs.Common.{◌≡◌, rules, sym, subst}
use Rattle.mfjson.specs.Datetime.{IsDateText}
use Rattle.mfjson.proofs.DateTexts.{date_of_one_day}
use Rattle.mfjson.proofs.DigitsLemmas.{none_without}
use Rattle.mfjson.proofs.datetime.LastDay.day_of.Goals as goal

pub returns-then-eq-clause-exact : goal.returns-then-eq-clause-exact
returns-then-eq-clause-exact c =
    let same : c.args.date.now ≡ c.args.self.now.date = search rules in
    date_of_one_day c.args.date.now c.args.self.now.day (subst (λ d. IsDateText d c.args.self.now.day) (sym same) c.requires.last)

pub returns-in_err-day-clause-exact : goal.returns-in_err-day-clause-exact
returns-in_err-day-clause-exact c n = rw c.from_residual.ensures (none_without _ _ n _ (λ is. is) (c.in_err-day.ensures.exact _))
