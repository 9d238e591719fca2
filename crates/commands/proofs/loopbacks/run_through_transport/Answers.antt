use Rattle.commands.proofs.Endings.{is_looped, loop_stops}
use Rattle.commands.proofs.loopbacks.run_through_transport.Goals as goal

pub returns-in-Ok-clause-makes : goal.returns-in-Ok-clause-makes
returns-in-Ok-clause-makes g c =
    is_looped g.T.Transport c.args.transport c.args.schedule _ _ _ _ c.nodes.ensures c.in_ok-cluster.ensures.fresh
    c.in-Ok.ensures.text

pub returns-clause-ends : goal.returns-clause-ends
returns-clause-ends g c = λ other.
    loop_stops g.T.Transport c.args.transport c.args.schedule _ _ _ _ _ c.nodes.ensures c.in_ok-cluster.ensures.fresh
    c.in-Err.ensures.fault c.replay_failure.ensures.memory c.replay_failure.ensures.line other
