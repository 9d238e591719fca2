use Rattle.schedule.proofs.Told.{err_told}
use Rattle.schedule.proofs.RowLemmas.{no_words}
use Rattle.schedule.proofs.one_line.any_row.Goals as goal

pub returns-in_err-first : goal.returns-in_err-first
returns-in_err-first c =
    err_told _ _ _ _ c.from_residual.ensures.1
    (rw (c.in_err-first.ensures.0, c.in_err-first.ensures.1) (no_words c.args.nodes))
