use Rattle.std.proofs.Common.{◌^◌, arith}
use Rattle.schedule.proofs.Decimals.{writes_one}
use Rattle.audit.proofs.numbers.from_one.Goals as goal

pub returns-then-value-eq0 : goal.returns-then-value-eq0
returns-then-value-eq0 c = λ value w.
    let same = writes_one c.args.word.now 1 (2 ^ 64) _ value (omega arith) c.in_ok-value.ensures w in
    omega (arith, same, w.from, c.if-value-eq0.true)
