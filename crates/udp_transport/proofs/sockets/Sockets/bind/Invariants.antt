use Rattle.std.proofs.Common.{◌≡◌, vec_len}
use Rattle.udp_transport.proofs.sockets.Sockets.bind.Given as goal

-- as many sockets were bound
abbrev pub invariant-loop : goal.invariant-loop
invariant-loop g l = vec_len l.sockets.ends ≡ l.counter
