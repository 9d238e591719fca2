use Rattle.std.proofs.Common.{rules}
use Rattle.udp_transport.proofs.end.End.take_one.Goals as goal

-- what was received
pub returns-clause-joins : goal.returns-clause-joins
returns-clause-joins c _ = (c.in-Ok-Some.datagram, search rules)
