use Rattle.std.proofs.Common.{rules}
use Rattle.std.proofs.lemmas.Result.{err_from_is_err_and}
use Rattle.stable.specs.contracts.scripted.ScriptedStable.TheImpl as scripted
use Rattle.replay.proofs.AsRead.{all_as_read, next_is_refused, none_done, one_more_as_read, refused_behind_it, undone_there}
use Rattle.replay.proofs.world_run.do_unread.Goals as goal

pub loop-unread-init : goal.loop-unread-init
loop-unread-init g c = (none_done (scripted.ghosts g.row.S g.S.Stable g.S.Stable-dict) _ _, c.outcomes.ensures.safe)

-- the next line is faulty
pub returns-in_err-line-clause-ends : goal.returns-in_err-line-clause-ends
returns-in_err-line-clause-ends g c =
    let p = err_from_is_err_and c.from_residual.result c.from_residual.ensures.1 in
    rw (p.1, p.2) (next_is_refused (scripted.ghosts g.row.S g.S.Stable g.S.Stable-dict) _ _ _ _ _ _ c.loop-unread.invariant.0
    c.in_err-line.ensures)

-- it is done
pub loop-unread-preserved : goal.loop-unread-preserved
loop-unread-preserved g c = (
  one_more_as_read (scripted.ghosts g.row.S g.S.Stable g.S.Stable-dict) _ _ _ _ _ _ _ c.loop-unread.invariant.0
      (rw c.in-Some.is at c.in_ok-line.ensures) c.in_default-do_line.ensures.done,
  c.do_line.ensures.safe,
)

-- or it can't be, and the lines behind it are faultless
pub returns-in-Err-clause-ends : goal.returns-in-Err-clause-ends
returns-in-Err-clause-ends g c =
    undone_there (scripted.ghosts g.row.S g.S.Stable g.S.Stable-dict) _ _ _ _ _ _ _ _ c.loop-unread.invariant.0
    (rw c.in-Some.is at c.in_ok-line.ensures) c.in-Err.ensures.done c.in_ok-see_faultless.ensures

-- or one of them is faulty
pub returns-in_err-see_faultless-clause-ends : goal.returns-in_err-see_faultless-clause-ends
returns-in_err-see_faultless-clause-ends g c =
    let left = c.from_residual-in_err-see_faultless in
    let p = err_from_is_err_and left.result left.ensures.1 in
    rw (p.1, p.2) (refused_behind_it (scripted.ghosts g.row.S g.S.Stable g.S.Stable-dict) _ _ _ _ _ _ _ _ c.loop-unread.invariant.0
    (rw c.in-Some.is at c.in_ok-line.ensures) c.in_err-see_faultless.ensures)

-- none is left
pub returns-clause-ends : goal.returns-clause-ends
returns-clause-ends g c =
    all_as_read (scripted.ghosts g.row.S g.S.Stable g.S.Stable-dict) _ _ _ _ c.loop-unread.invariant.0
    (search rules)
