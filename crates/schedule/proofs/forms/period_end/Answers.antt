use Rattle.std.proofs.Common.{arith}
use Rattle.schedule.proofs.PeriodMarks.{not_an_end}
use Rattle.schedule.proofs.forms.period_end.Goals as goal

pub returns-in_err-instant : goal.returns-in_err-instant
returns-in_err-instant c =
    rw c.from_residual.ensures
    (not_an_end c.args.word.now c.in-Some.text.now 93 c.in-Some.ensures (λ e. omega (arith, e)) c.in_err-instant.ensures)

pub returns-in_err-instant-in-Some-before : goal.returns-in_err-instant-in-Some-before
returns-in_err-instant-in-Some-before c =
    rw c.from_residual-in_err-instant-in-Some-before.ensures
    (not_an_end c.args.word.now c.in-Some-before.text.now 41 c.in-Some-before.ensures (λ e. omega (arith, e))
    c.in_err-instant-in-Some-before.ensures)
