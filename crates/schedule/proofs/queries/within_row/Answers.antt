use Rattle.schedule.proofs.RowLemmas.{no_period_to_look_in}
use Rattle.schedule.proofs.queries.within_row.Goals as goal

pub returns-in_default : goal.returns-in_default
returns-in_default c =
    rw (c.in_ok-datetimes.ensures, c.in_ok-bounds.ensures) (λ n. no_period_to_look_in n _ _ _ _ _ _ c.in_default.ensures)
