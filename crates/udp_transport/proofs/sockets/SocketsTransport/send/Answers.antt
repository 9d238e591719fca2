use Rattle.std.proofs.Common.{rules, refl}
use Rattle.udp_transport.specs.Waiting.{TakesIn}
use Rattle.udp_transport.specs.declared.end.TheConstants.{MOST_TAKEN}
use Rattle.udp_transport.proofs.Changing.{changes_there, is_there}
use Rattle.udp_transport.proofs.sockets.SocketsTransport.send.Goals as goal

-- nobody sends
pub returns-in_err-sender-clause-takes_in : goal.returns-in_err-sender-clause-takes_in
returns-in_err-sender-clause-takes_in c _ =
    changes_there c.args.to c.from.result (search rules) c.args.self.now c.in_ok-receiver.receiver.now (search rules) (search rules)
    (TakesIn MOST_TAKEN) _ c.take_in.new.self c.take_in.ensures refl

pub returns-in_err-sender-clause-no_node : goal.returns-in_err-sender-clause-no_node
returns-in_err-sender-clause-no_node c none =
    absurd (is_there c.args.to c.from.result (search rules) c.args.self.now c.in_ok-receiver.receiver.now (search rules) (search rules) none)

-- it is sent
pub returns-clause-takes_in : goal.returns-clause-takes_in
returns-clause-takes_in c _ =
    changes_there c.args.to c.from.result (search rules) c.args.self.now c.in_ok-receiver.receiver.now (search rules) (search rules)
    (TakesIn MOST_TAKEN) _ c.take_in.new.self c.take_in.ensures refl

pub returns-clause-no_node : goal.returns-clause-no_node
returns-clause-no_node c none =
    absurd (is_there c.args.to c.from.result (search rules) c.args.self.now c.in_ok-receiver.receiver.now (search rules) (search rules) none)
