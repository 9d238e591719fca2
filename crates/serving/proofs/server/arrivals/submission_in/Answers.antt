use Rattle.std.proofs.Common.{subst}
use Rattle.clients.specs.ClientLines.{IsClientFault}
use Rattle.serving.proofs.Packets.{faulty_submits_nothing}
use Rattle.serving.proofs.server.arrivals.submission_in.Goals as goal

pub returns-in-Err-Schedule-clause-found : goal.returns-in-Err-Schedule-clause-found
returns-in-Err-Schedule-clause-found c =
    faulty_submits_nothing c.args.line.now c.in-Err-Schedule.field-0-0
    (subst (IsClientFault c.args.line.now) c.in-Err-Schedule.field-0-is c.in-Err-Schedule.ensures.fault)
