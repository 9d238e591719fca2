use Rattle.serving.specs.Outgoing.{ArePacketsOf, IsPacketOf}
use Rattle.serving.specs.Serving.{Passes, PassesOnly}
use Rattle.serving.specs.Timings.{leader_in}
use Rattle.serving.proofs.server.Server.send_packet.Given as goal

abbrev pub invariant-nodes : goal.invariant-nodes
invariant-nodes g l =
    PassesOnly g.N.Network.tape g.N.Network.Tells (IsPacketOf (leader_in l.self.timing) l.self.own l.packet) l.initial.network l.network
    × Passes g.N.Network.tape g.N.Network.Tells (ArePacketsOf (leader_in l.self.timing) l.self.own l.packet l.node) l.initial.network
    l.network
