use Rattle.std.proofs.lemmas.Result.{err_from_is_err_and}
use Rattle.replay.proofs.ClusterRunning.{through_to_a_line, through_to_the_last, runs_through}
use Rattle.replay.proofs.cluster_run.run_through.Goals as goal

pub returns-in_err-do_lines_through-clause-fault : goal.returns-in_err-do_lines_through-clause-fault
returns-in_err-do_lines_through-clause-fault g c =
    let p = err_from_is_err_and c.from_residual.result c.from_residual.ensures.1 in
    rw (p.1, p.2) (through_to_a_line g.T.Transport _ _ _ _ _ c.into_lines.ensures c.in_err-do_lines_through.ensures.ends
    c.in_err-do_lines_through.ensures.safe)

pub returns-in-Ok-clause-text : goal.returns-in-Ok-clause-text
returns-in-Ok-clause-text g c =
    runs_through g.T.Transport _ _ _ _ _ c.into_lines.ensures c.in_ok-do_lines_through.ensures.ends c.in-Ok.ensures.told
    c.cluster_text.ensures.safe

pub returns-in-Err-clause-fault : goal.returns-in-Err-clause-fault
returns-in-Err-clause-fault g c =
    through_to_the_last g.T.Transport _ _ _ _ _ c.into_lines.ensures c.in_ok-do_lines_through.ensures.ends c.last-last.ensures
    c.cluster_text.ensures.safe
