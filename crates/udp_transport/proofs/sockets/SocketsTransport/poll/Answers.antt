use Rattle.std.proofs.Common.{rules, refl}
use Rattle.udp_transport.specs.Waiting.{HandsOut}
use Rattle.udp_transport.proofs.Changing.{changes_there, is_there}
use Rattle.udp_transport.proofs.sockets.SocketsTransport.poll.Goals as goal

pub returns-clause-hands_out : goal.returns-clause-hands_out
returns-clause-hands_out c _ =
    changes_there c.args.node c.from.result (search rules) c.args.self.now c.in_ok-end.end.now (search rules) (search rules)
    (HandsOut c.next.result) _ c.next.new.self c.next.ensures refl

pub returns-clause-no_node : goal.returns-clause-no_node
returns-clause-no_node c none =
    absurd (is_there c.args.node c.from.result (search rules) c.args.self.now c.in_ok-end.end.now (search rules) (search rules) none)
