use Rattle.commands.proofs.Endings.{is_joined}
use Rattle.commands.proofs.loopbacks.start_cluster.Goals as goal

pub returns-in_ok-new-in-Ok-clause-fresh : goal.returns-in_ok-new-in-Ok-clause-fresh
returns-in_ok-new-in-Ok-clause-fresh g c = is_joined c.args.count _ _ _ c.in_ok-new-in-Ok.ensures c.in-Ok.ensures.start
