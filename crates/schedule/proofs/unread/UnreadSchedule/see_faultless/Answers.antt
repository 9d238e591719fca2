use Rattle.std.proofs.Common.{◌∷◌, ◌++◌, []}
use Rattle.std.proofs.lemmas.Result.{err_from_is_err_and}
use Rattle.schedule.proofs.LinesLeft.{begins, one_more_read, refused_there}
use Rattle.schedule.proofs.unread.UnreadSchedule.see_faultless.Goals as goal

pub returns-in_err-seen : goal.returns-in_err-seen
returns-in_err-seen c =
    let p = err_from_is_err_and c.from_residual.result c.from_residual.ensures.1 in
    rw (p.1, p.2) (refused_there _ _ _ _ _ c.loop-unread.invariant.1 c.in_err-seen.ensures)

pub loop-unread-preserved : goal.loop-unread-preserved
loop-unread-preserved c = (
  c.loop-unread.invariant.0 ++ c.in-Some.seen ∷ [],
  one_more_read _ _ _ _ _ c.loop-unread.invariant.1 (rw c.in-Some.is at c.in_ok-seen.ensures),
)
