use Rattle.std.proofs.lemmas.Result.{err_from_is_err_and}
use Rattle.stable.specs.contracts.scripted.ScriptedStable.TheImpl as scripted
use Rattle.replay.proofs.Running.{runs_to, run_ends_at, run_ends_last}
use Rattle.replay.proofs.world_run.run_lines.Goals as goal

pub returns-in_err-do_lines-clause-fault : goal.returns-in_err-do_lines-clause-fault
returns-in_err-do_lines-clause-fault g c =
    let p = err_from_is_err_and c.from_residual.result c.from_residual.ensures.1 in
    rw (p.1, p.2) (run_ends_at (scripted.ghosts g.row.S g.S.Stable g.S.Stable-dict) g.S.Stable.IsHonest _ _ _ _ _ c.into_lines.ensures
    c.in_err-do_lines.ensures.ends c.in_err-do_lines.ensures.safe)

pub returns-in-Ok-clause-transcript : goal.returns-in-Ok-clause-transcript
returns-in-Ok-clause-transcript g c =
    (runs_to (scripted.ghosts g.row.S g.S.Stable g.S.Stable-dict) g.S.Stable.IsHonest _ _ _ _ _ c.into_lines.ensures
    c.in_ok-do_lines.ensures.ends
    c.in-Ok.ensures.told c.in-Ok.ensures.safe).0

pub returns-in-Ok-clause-ended : goal.returns-in-Ok-clause-ended
returns-in-Ok-clause-ended g c =
    runs_to (scripted.ghosts g.row.S g.S.Stable g.S.Stable-dict) g.S.Stable.IsHonest _ _ _ _ _ c.into_lines.ensures
    c.in_ok-do_lines.ensures.ends
    c.in-Ok.ensures.told c.in-Ok.ensures.safe

pub returns-in-Err-clause-fault : goal.returns-in-Err-clause-fault
returns-in-Err-clause-fault g c =
    run_ends_last (scripted.ghosts g.row.S g.S.Stable g.S.Stable-dict) g.S.Stable.IsHonest _ _ _ _ _ c.into_lines.ensures
    c.in_ok-do_lines.ensures.ends c.last-last.ensures c.world_transcript.ensures.safe
