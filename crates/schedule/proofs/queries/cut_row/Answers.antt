use Rattle.std.proofs.Common.{refl}
use Rattle.schedule.proofs.RowLemmas.{no_period_to_cut}
use Rattle.schedule.proofs.queries.cut_row.Goals as goal

pub returns-in_default-period : goal.returns-in_default-period
returns-in_default-period c =
    rw (c.in_ok-name.ensures, c.in_ok-datetimes.ensures, c.in_ok-end.ensures) (λ n. no_period_to_cut n _ _ _ c.in_default-period.ensures)

pub returns : goal.returns
returns c =
    rw (c.in_ok-name.ensures, c.in_ok-datetimes.ensures, c.in_ok-end.ensures)
    (λ n. ((c.in-Some.id, (c.in-Some-period.period, tt)), (refl, (c.in-Some.ensures, (c.in-Some-period.ensures, tt))), refl))
