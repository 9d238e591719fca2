use Rattle.std.proofs.lemmas.Result.{err_from_is_err_and}
use Rattle.cluster.specs.ClusterViews.{cluster_of}
use Rattle.replay.proofs.ClusterRunning.{pump_broken_off, pump_passed, round_broken_off, round_passed, stepped}
use Rattle.replay.proofs.cluster_run.act_through.Goals as goal

-- the world makes the step, or doesn't
pub returns-in-Step-clause-done : goal.returns-in-Step-clause-done
returns-in-Step-clause-done g c =
    let done = c.step.ensures in
    rw c.in-Step.is (stepped g.T.Transport (cluster_of c.args.cluster.now) (cluster_of c.step.new.self) c.in-Step.event c.step.result
    done.steps done.sends done.no_strangers done.err done.no_frame done.no_node done.faults)

-- the pump has come to its end
pub returns-in_ok-_delivered-in-Flush-clause-done : goal.returns-in_ok-_delivered-in-Flush-clause-done
returns-in_ok-_delivered-in-Flush-clause-done g c =
    rw c.in-Flush.is (pump_passed g.T.Transport (cluster_of c.args.cluster.now) (cluster_of c.pump.new.self) _
    c.in_ok-_delivered-in-Flush.ensures.pumps)

-- or has failed
pub returns-in_err-_delivered-in-Flush-clause-done : goal.returns-in_err-_delivered-in-Flush-clause-done
returns-in_err-_delivered-in-Flush-clause-done g c =
    let p = err_from_is_err_and c.from_residual.result c.from_residual.ensures.1 in
    let failed = c.in_err-_delivered-in-Flush.ensures in
    rw (p.1, p.2, c.in-Flush.is) (pump_broken_off g.T.Transport (cluster_of c.args.cluster.now) (cluster_of c.pump.new.self) _
    failed.pumps failed.faults)

-- the round has come to its end
pub returns-in_ok-_end-in-Round-clause-done : goal.returns-in_ok-_end-in-Round-clause-done
returns-in_ok-_end-in-Round-clause-done g c =
    let ended = c.in_ok-_end-in-Round.ensures in
    rw c.in-Round.is (round_passed g.T.Transport (cluster_of c.args.cluster.now) (cluster_of c.round.new.self) c.in-Round.node _ _ _
    c.as_slice.ensures ended.ends (record { sent = ended.sends; strangers = ended.no_strangers }))

-- the run has no such node, or memory was wanting
pub returns-in_err-_end-in-Round-clause-done : goal.returns-in_err-_end-in-Round-clause-done
returns-in_err-_end-in-Round-clause-done g c =
    let left = c.from_residual-in_err-_end-in-Round in
    let p = err_from_is_err_and left.result left.ensures.1 in
    let failed = c.in_err-_end-in-Round.ensures in
    rw (p.1, p.2, c.in-Round.is) (round_broken_off g.T.Transport (cluster_of c.args.cluster.now) (cluster_of c.round.new.self) _ _ _ _
    c.as_slice.ensures failed.no_node.0 failed.unchanged failed.memory failed.faults
    (record { sent = failed.sends; strangers = failed.no_strangers }))
