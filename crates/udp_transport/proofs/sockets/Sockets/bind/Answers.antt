use Rattle.std.proofs.Common.{rules}
use Rattle.udp_transport.proofs.sockets.Sockets.bind.Goals as goal

pub loop-init : goal.loop-init
loop-init g c = search rules
