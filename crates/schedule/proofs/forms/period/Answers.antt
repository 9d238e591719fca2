use Rattle.schedule.proofs.Coordinates.{period_made}
use Rattle.schedule.proofs.forms.period.Goals as goal

pub returns-in_err-begin : goal.returns-in_err-begin
returns-in_err-begin c =
    rw c.from_residual.ensures (λ period is. c.in_err-begin.ensures period.begin period.begin_in is.begins)

pub returns-in_err-end : goal.returns-in_err-end
returns-in_err-end c =
    rw c.from_residual-in_err-end.ensures (λ period is. c.in_err-end.ensures period.end period.end_in is.ends)

pub returns : goal.returns
returns c =
    period_made _ _ _ c.with.result c.in_ok-begin.ensures c.in_ok-end.ensures c.with.ensures.valid c.with.ensures.value
