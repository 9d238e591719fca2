use Rattle.serving.specs.Seen.{process_of, server_of}
use Rattle.serving.proofs.Answering.{nodes_handing_on, nodes_still}
use Rattle.serving.specs.Outgoing.{IsPacketOf, IsRightlySent}
use Rattle.serving.specs.Timings.{leader_in}
use Rattle.serving.proofs.HandingOn.{packet_right}
use Rattle.serving.proofs.Passing.{only_none, only_weaker}
use Rattle.serving.proofs.Requested.{unmarked_same}
use Rattle.serving.proofs.Ripening.{none_handed_on}
use Rattle.serving.specs.Requesting.{RequestState, as_new_all}
use Rattle.std.proofs.Common.{ap, List}
use Rattle.serving.proofs.Moving.{moves_same, nodes_moves_quiet}
use Rattle.serving.proofs.MovesOut.{moves_handing_on}
use Rattle.serving.proofs.Breaking.{on_err}
use Rattle.serving.proofs.Stopping.{hands_on_some}
use Rattle.serving.proofs.server.Server.hand_on_next.Goals as goal

pub returns-in_default-clause-serves : goal.returns-in_default-clause-serves
returns-in_default-clause-serves g c =
    nodes_still g.S.Stable g.N.Network.tape g.N.Network.Tells (server_of c.args.self.now) c.next_due.new.self c.args.network.now c.in_default.ensures.unchanged

pub returns-in_err-send_packet-clause-serves : goal.returns-in_err-send_packet-clause-serves
returns-in_err-send_packet-clause-serves g c =
    nodes_handing_on g.S.Stable g.N.Network.tape g.N.Network.Tells (server_of c.args.self.now) c.next_due.new.self c.args.now c.in-Some.place (leader_in c.args.self.now.timing) c.args.self.now.own c.packet.result.now c.args.network.now c.send_packet.new.network
    c.in-Some.ensures.handed_on c.packet.ensures.packet c.send_packet.ensures.only

pub returns-clause-serves : goal.returns-clause-serves
returns-clause-serves g c =
    nodes_handing_on g.S.Stable g.N.Network.tape g.N.Network.Tells (server_of c.args.self.now) c.next_due.new.self c.args.now c.in-Some.place (leader_in c.args.self.now.timing) c.args.self.now.own c.packet.result.now c.args.network.now c.send_packet.new.network
    c.in-Some.ensures.handed_on c.packet.ensures.packet c.send_packet.ensures.only

pub returns-in_default-clause-sends : goal.returns-in_default-clause-sends
returns-in_default-clause-sends g c =
    only_none g.N.Network.tape g.N.Network.Tells (IsRightlySent (leader_in c.args.self.now.timing) c.args.self.now.own) c.args.network.now

pub returns-clause-sends : goal.returns-clause-sends
returns-clause-sends g c =
    let leader = leader_in c.args.self.now.timing in
    let own = c.args.self.now.own in
    only_weaker g.N.Network.tape g.N.Network.Tells (IsPacketOf leader own c.packet.result.now) (IsRightlySent leader own)
    (packet_right leader own c.packet.result.now) _ _ c.send_packet.ensures.only

pub returns-in_err-send_packet-clause-none : goal.returns-in_err-send_packet-clause-none
returns-in_err-send_packet-clause-none g c = none_handed_on c.args.now c.in-Some.place _ _ c.in-Some.ensures.handed_on

pub returns-clause-none : goal.returns-clause-none
returns-clause-none g c = none_handed_on c.args.now c.in-Some.place _ _ c.in-Some.ensures.handed_on

pub returns-in_default-clause-keeps : goal.returns-in_default-clause-keeps
returns-in_default-clause-keeps g c = ap as_new_all c.in_default.ensures.unchanged

pub returns-in_err-send_packet-clause-keeps : goal.returns-in_err-send_packet-clause-keeps
returns-in_err-send_packet-clause-keeps g c = unmarked_same c.args.now c.in-Some.place _ _ c.in-Some.ensures.handed_on

pub returns-clause-keeps : goal.returns-clause-keeps
returns-clause-keeps g c = unmarked_same c.args.now c.in-Some.place _ _ c.in-Some.ensures.handed_on

pub returns-in_default-clause-first : goal.returns-in_default-clause-first
returns-in_default-clause-first g c = (c.in_default.ensures.unchanged, c.in_default.ensures.none)

pub returns-clause-first : goal.returns-clause-first
returns-clause-first g c = (c.in-Some.place, c.in-Some.ensures.handed_on)

pub returns-in_default-clause-moves : goal.returns-in_default-clause-moves
returns-in_default-clause-moves g c = λ held none_at_full.
    let after = record (process_of c.args.self.now) { requests = c.next_due.new.self } in
    nodes_moves_quiet g.S.Stable c.args.now g.N.Network.tape g.N.Network.Tells (process_of c.args.self.now) after c.args.network.now
    (moves_same g.S.Stable c.args.now (process_of c.args.self.now) after
    (ap (λ (rs : List RequestState). record (process_of c.args.self.now) { requests = rs }) c.in_default.ensures.unchanged))

pub returns-clause-moves : goal.returns-clause-moves
returns-clause-moves g c = λ held none_at_full.
    moves_handing_on g.S.Stable c.args.now g.N.Network.tape g.N.Network.Tells (process_of c.args.self.now) c.next_due.new.self c.in-Some.place
    c.packet.result.now c.args.network.now c.send_packet.new.network c.in-Some.ensures.handed_on c.packet.ensures.packet
    c.packet.ensures.marked held none_at_full c.in_ok-send_packet.ensures.all

pub returns-in_err-send_packet-clause-stops : goal.returns-in_err-send_packet-clause-stops
returns-in_err-send_packet-clause-stops g c = λ held none_at_full.
    on_err _ (hands_on_some g.S.Stable c.args.now g.N.Network.tape g.N.Network.Tells (process_of c.args.self.now) c.next_due.new.self c.in-Some.place
    c.packet.result.now c.args.network.now c.send_packet.new.network c.in-Some.ensures.handed_on c.packet.ensures.packet held none_at_full
    c.in_err-send_packet.ensures.some)
