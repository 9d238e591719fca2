-- Two words of a period are left, or fewer.
use Rattle.schedule.proofs.Told.{err_told}
use Rattle.schedule.proofs.words.Words.needed_period.Goals as goal

pub returns-in_err-begin : goal.returns-in_err-begin
returns-in_err-begin c = err_told _ _ _ _ c.from_residual.ensures.1 c.in_err-begin.ensures

pub returns : goal.returns
returns c = c.in_ok-begin.ensures
