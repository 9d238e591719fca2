use Rattle.std.proofs.lemmas.Result.{err_from_is_err_and}
use Rattle.schedule.proofs.NoSchedule.{refused_is_none}
use Rattle.schedule.proofs.LinesLeft.{refusal_of, schedule_of}
use Rattle.schedule.proofs.parse.parse_schedule.Goals as goal

pub returns-clause-spelled : goal.returns-clause-spelled
returns-clause-spelled c =
    rw (c.new.ensures, c.first-first.ensures, c.nodes-nodes.ensures)
    (schedule_of c.args.bytes.now c.in_ok-unread.unread _ c.in_ok-unread.ensures.begun c.in_ok-lines.ensures)

pub returns-in_err-unread-clause-no_schedule : goal.returns-in_err-unread-clause-no_schedule
returns-in_err-unread-clause-no_schedule c =
    let p = err_from_is_err_and c.from_residual.result c.from_residual.ensures.1 in
    rw (p.1, p.2) (refused_is_none _ _ c.in_err-unread.ensures.refused)

pub returns-in_err-lines-clause-refused : goal.returns-in_err-lines-clause-refused
returns-in_err-lines-clause-refused c =
    let left = c.from_residual-in_err-lines in
    let p = err_from_is_err_and left.result left.ensures.1 in
    rw (p.1, p.2) (refusal_of _ _ _ c.in_ok-unread.ensures.begun c.in_err-lines.ensures)

pub returns-in_err-lines-clause-no_schedule : goal.returns-in_err-lines-clause-no_schedule
returns-in_err-lines-clause-no_schedule c =
    let left = c.from_residual-in_err-lines in
    let p = err_from_is_err_and left.result left.ensures.1 in
    rw (p.1, p.2) (refused_is_none _ _ (refusal_of _ _ _ c.in_ok-unread.ensures.begun c.in_err-lines.ensures))
