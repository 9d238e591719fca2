use Rattle.std.proofs.lemmas.Result.{err_from_is_err_and}
use Rattle.schedule.proofs.LinesLeft.{no_room, one_more_read, refused_there}
use Rattle.schedule.proofs.unread.UnreadSchedule.into_lines.Goals as goal

pub returns-in_err-line : goal.returns-in_err-line
returns-in_err-line c =
    let p = err_from_is_err_and c.from_residual.result c.from_residual.ensures.1 in
    rw (p.1, p.2) (refused_there _ _ _ _ _ c.loop-read.invariant c.in_err-line.ensures)

pub loop-read-preserved : goal.loop-read-preserved
loop-read-preserved c =
    rw c.in_ok-keep.ensures (one_more_read _ _ _ _ _ c.loop-read.invariant (rw c.in-Some.is at c.in_ok-line.ensures))

pub returns-in_err-keep : goal.returns-in_err-keep
returns-in_err-keep c =
    let left = c.from_residual-in_err-keep in
    let p = err_from_is_err_and left.result left.ensures.1 in
    rw (p.1, p.2) (no_room _ _ _ _ _ _ c.loop-read.invariant (rw c.in-Some.is at c.in_ok-line.ensures) c.in_err-keep.ensures)
