use Rattle.mfjson.proofs.DigitsLemmas.{none_exact, none_without}
use Rattle.mfjson.proofs.SecondTexts.{second_parts, second_exact}
use Rattle.mfjson.proofs.datetime.LastDay.second_of.Goals as goal

pub returns-then-text-ne84-clause-exact : goal.returns-then-text-ne84-clause-exact
returns-then-text-ne84-clause-exact c n = none_exact _ n (λ is. c.if-text-ne84.true (second_parts c.args.text.now n is).mark)

pub returns-in_err-day-clause-exact : goal.returns-in_err-day-clause-exact
returns-in_err-day-clause-exact c n =
    rw c.from_residual.ensures (none_without _ _ n _ (λ is. (second_parts c.args.text.now n is).date) (c.in_err-day.ensures.exact _))

pub returns-in_err-second-clause-exact : goal.returns-in_err-second-clause-exact
returns-in_err-second-clause-exact c n =
    rw c.from_residual-in_err-second.ensures (none_without _ _ n _ (λ is. (second_parts c.args.text.now n is).clock)
    (c.in_err-second.ensures.exact _))

pub returns-clause-exact : goal.returns-clause-exact
returns-clause-exact c n =
    rw (c.from.ensures, c.from-2.ensures) (second_exact c.args.text.now _ _ c.requires.length
    c.if-text-ne84.false c.in_ok-second.ensures.bound c.in_ok-day.ensures.exact c.in_ok-second.ensures.exact n)
