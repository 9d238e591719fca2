use Rattle.udp_transport.specs.Waiting.{TakesIn}
use Rattle.udp_transport.proofs.end.End.take_in.Given as goal

-- so many joined at most
abbrev pub invariant-loop : goal.invariant-loop
invariant-loop l = TakesIn l.counter l.initial.self l.self
