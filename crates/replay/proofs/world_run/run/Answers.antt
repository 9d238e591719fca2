use Rattle.std.proofs.lemmas.Result.{err_from_is_err_and}
use Rattle.world.specs.Seen.{world_of}
use Rattle.replay.proofs.Running.{ended_over, fails_over, runs_over}
use Rattle.replay.proofs.world_run.run.Goals as goal

pub returns-in_err-world-clause-fault : goal.returns-in_err-world-clause-fault
returns-in_err-world-clause-fault g c =
    let p = err_from_is_err_and c.from_residual.result c.from_residual.ensures.1 in
    rw (p.1, p.2) c.in_err-world.ensures.fault

pub returns-clause-transcript : goal.returns-clause-transcript
returns-clause-transcript g c =
    runs_over g.S.Stable c.args.stores.items c.args.schedule (world_of c.in_ok-world.world) c.run_lines.result
    c.in_ok-world.ensures.started c.in_ok-world.ensures.over c.run_lines.ensures.transcript

pub returns-clause-ended : goal.returns-clause-ended
returns-clause-ended g c =
    ended_over g.S.Stable c.args.stores.items c.args.schedule (world_of c.in_ok-world.world) c.run_lines.result
    c.in_ok-world.ensures.started c.in_ok-world.ensures.over c.run_lines.ensures.ended

pub returns-clause-fault : goal.returns-clause-fault
returns-clause-fault g c =
    fails_over g.S.Stable c.args.stores.items c.args.schedule (world_of c.in_ok-world.world) c.run_lines.result
    c.in_ok-world.ensures.started c.in_ok-world.ensures.over c.run_lines.ensures.fault
