-- An id, and behind it a period and a rectangle.
use Rattle.std.proofs.Common.{inl, arith}
use Rattle.schedule.proofs.Told.{err_told}
use Rattle.schedule.proofs.RowLemmas.{visit_fault}
use Rattle.schedule.proofs.queries.visit_row.Goals as goal

pub returns-in_err-period : goal.returns-in_err-period
returns-in_err-period c =
    err_told _ _ _ _ c.from_residual-in_err-period.ensures.1
    (rw c.in_ok-name.ensures (λ n. visit_fault n _ _ _ (c.in_err-period.ensures n)))

pub returns-in_default : goal.returns-in_default
returns-in_default c =
    rw c.in_ok-name.ensures
    (λ n. let visit = c.in_ok-period.ensures n in (omega (arith, visit.0), inl (λ is. c.in_default.ensures is.1.1)))

pub returns : goal.returns
returns c =
    rw c.in_ok-name.ensures
    (λ n. let visit = c.in_ok-period.ensures n in (omega (arith, visit.0), (c.in-Some.ensures, visit.1)))
