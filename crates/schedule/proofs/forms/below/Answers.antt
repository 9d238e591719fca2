use Rattle.std.proofs.Common.{◌≤◌, ◌^◌, arith}
use Rattle.schedule.proofs.Decimals.{writes_one}
use Rattle.schedule.proofs.forms.below.Goals as goal

pub returns-else-value-limit : goal.returns-else-value-limit
returns-else-value-limit c = λ value w.
    let small : c.args.limit ≤ 2 ^ 64 = omega (arith, c.ranges.limit.fits) in
    let same = writes_one _ _ _ _ _ small c.in_ok-value.ensures w in
    omega (arith, same, w.below, c.if-value-limit.false)
