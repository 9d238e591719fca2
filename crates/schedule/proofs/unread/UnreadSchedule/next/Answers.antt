use Rattle.std.proofs.lemmas.Result.{err_from_is_err_and}
use Rattle.schedule.proofs.LinesLeft.{reads_as, refuses}
use Rattle.schedule.proofs.unread.UnreadSchedule.next.Goals as goal

pub returns-in_err-action : goal.returns-in_err-action
returns-in_err-action c =
    let p = err_from_is_err_and c.from_residual.result c.from_residual.ensures.1 in
    rw (p.1, p.2) (refuses c.args.self.now c.self.inside.first c.self.inside.nodes _ _ _ _ c.self.view_is c.in-Some.ensures c.in_err-action.ensures)

pub returns : goal.returns
returns c =
    reads_as c.args.self.now c.self.inside.first c.self.inside.nodes _ _ _ _ c.self.view_is c.in-Some.ensures c.in_ok-action.ensures
