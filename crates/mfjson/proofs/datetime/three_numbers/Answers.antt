use Rattle.mfjson.proofs.DigitsLemmas.{none_without}
use Rattle.mfjson.proofs.ThreeNumbers.{numbers_exact}
use Rattle.mfjson.proofs.datetime.three_numbers.Goals as goal

pub returns-in_err-a-clause-exact : goal.returns-in_err-a-clause-exact
returns-in_err-a-clause-exact c x y z =
    rw c.from_residual.ensures (none_without _ _ (x, y, z) _ (λ are. are.first) (c.in_err-a.ensures.exact x))

pub returns-in_err-b-clause-exact : goal.returns-in_err-b-clause-exact
returns-in_err-b-clause-exact c x y z =
    rw c.from_residual-in_err-b.ensures (none_without _ _ (x, y, z) _ (λ are. are.second) (c.in_err-b.ensures.exact y))

pub returns-in_err-c-clause-exact : goal.returns-in_err-c-clause-exact
returns-in_err-c-clause-exact c x y z =
    rw c.from_residual-in_err-c.ensures (none_without _ _ (x, y, z) _ (λ are. are.third) (c.in_err-c.ensures.exact z))

pub returns-clause-exact : goal.returns-clause-exact
returns-clause-exact c =
    numbers_exact c.args.mark _ _ _ _ _ c.if-rest-mark.false c.if-rest-mark-2.false c.in_ok-a.ensures.exact c.in_ok-b.ensures.exact
    c.in_ok-c.ensures.exact
