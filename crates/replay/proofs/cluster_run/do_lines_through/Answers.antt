use Rattle.std.proofs.lemmas.Result.{err_from_is_err_and}
use Rattle.replay.specs.ClusterRuns.{DoneThrough, RefusedThrough}
use Rattle.replay.proofs.LineByLine.{all_taken, one_more_taken, stops_here}
use Rattle.replay.proofs.cluster_run.do_lines_through.Goals as goal

pub loop-line-preserved : goal.loop-line-preserved
loop-line-preserved g c =
    one_more_taken (DoneThrough g.T.Transport) _ _ _ _ _ _ _ _ _ _ c.loop-line.invariant c.in-Some.ensures.steps c.in_ok-do_line_through.ensures.done

pub returns-in_err-do_line_through-clause-ends : goal.returns-in_err-do_line_through-clause-ends
returns-in_err-do_line_through-clause-ends g c =
    let p = err_from_is_err_and c.from_residual.result c.from_residual.ensures.1 in
    rw (p.1, p.2) (stops_here (DoneThrough g.T.Transport) (RefusedThrough g.T.Transport) _ _ _ _ _ _ _ _ _ _ _
    c.into_iter-line-iterator.ensures.into_iter_gives.0 c.loop-line.invariant c.in-Some.ensures.steps.0
    c.in_err-do_line_through.ensures.done)

pub returns-clause-ends : goal.returns-clause-ends
returns-clause-ends g c =
    all_taken (DoneThrough g.T.Transport) _ _ _ _ _ _ _ c.into_iter-line-iterator.ensures.into_iter_gives.0 c.loop-line.invariant
    c.in-None.ensures.steps.0
