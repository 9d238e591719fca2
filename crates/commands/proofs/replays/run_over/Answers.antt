use Rattle.commands.proofs.Endings.{stops_over}
use Rattle.commands.proofs.replays.run_over.Goals as goal

pub returns-in-Err-clause-ends : goal.returns-in-Err-clause-ends
returns-in-Err-clause-ends g c =
    stops_over g.S.Stable c.args.stores.items c.args.schedule c.in-Err.fault c.run_failure.result c.in-Err.ensures.fault
    c.run_failure.ensures.memory c.run_failure.ensures.used c.run_failure.ensures.line
