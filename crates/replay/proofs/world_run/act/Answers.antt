use Rattle.std.proofs.Common.{rules}
use Rattle.std.proofs.lemmas.Result.{err_from_is_err_and}
use Rattle.stable.specs.Storages.{scripted}
use Rattle.world.specs.Seen.{world_of}
use Rattle.replay.proofs.Running.{flush_refused, round_done, round_refused}
use Rattle.replay.proofs.world_run.act.Goals as goal

-- the flush met its limit, or memory was wanting
pub returns-in_err-_delivered-in-Flush-clause-done : goal.returns-in_err-_delivered-in-Flush-clause-done
returns-in_err-_delivered-in-Flush-clause-done g c =
    let p = err_from_is_err_and c.from_residual.result c.from_residual.ensures.1 in
    let failed = c.in_err-_delivered-in-Flush.ensures in
    rw (p.1, p.2, c.in-Flush.is) (flush_refused (scripted g.S.Stable) (world_of c.args.world.now) (world_of c.flush.new.self) _
    failed.limit failed.memory failed.not_to_the_end failed.faults)

-- the round has come to its end
pub returns-in_ok-_end-in-Round-clause-done : goal.returns-in_ok-_end-in-Round-clause-done
returns-in_ok-_end-in-Round-clause-done g c =
    rw c.in-Round.is (round_done (scripted g.S.Stable) (world_of c.args.world.now) (world_of c.round.new.self) c.in-Round.node _ _ _
    c.as_slice.ensures c.in_ok-_end-in-Round.ensures.ends)

-- the run has no such node, or memory was wanting
pub returns-in_err-_end-in-Round-clause-done : goal.returns-in_err-_end-in-Round-clause-done
returns-in_err-_end-in-Round-clause-done g c =
    let left = c.from_residual-in_err-_end-in-Round in
    let p = err_from_is_err_and left.result left.ensures.1 in
    let failed = c.in_err-_end-in-Round.ensures in
    rw (p.1, p.2, c.in-Round.is) (round_refused (scripted g.S.Stable) (world_of c.args.world.now) (world_of c.round.new.self) _ _ _ _
    c.as_slice.ensures failed.no_node.0 failed.unchanged failed.memory failed.faults)

pub returns-in-Step-clause-done : goal.returns-in-Step-clause-done
returns-in-Step-clause-done g c = search rules
