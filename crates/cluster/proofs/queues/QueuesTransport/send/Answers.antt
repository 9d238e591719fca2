use Rattle.std.proofs.Common.{ap}
use Rattle.cluster.specs.Passages.{Sent}
use Rattle.cluster.specs.Queues.{passages}
use Rattle.cluster.proofs.Queueing.{on_tape}
use Rattle.cluster.proofs.queues.QueuesTransport.send.Goals as goal

-- however it ends, what was to be sent was told first
pub returns-in_default : goal.returns-in_default
returns-in_default c = record {
  tape = λ tells. on_tape c.sent.result c.args.self.now.tape.items c.tell.new.self.tape.items (Sent c.args.from c.args.to c.args.bytes.now)
      c.sent.ensures (c.tell.ensures.ok tells) (c.tell.ensures.tape tells);
  told = c.tell.ensures.told;
  kept = λ untold. ap passages (c.tell.ensures.kept untold);
}

pub returns-in_err-datagram : goal.returns-in_err-datagram
returns-in_err-datagram c = record {
  tape = λ tells. on_tape c.sent.result c.args.self.now.tape.items c.tell.new.self.tape.items (Sent c.args.from c.args.to c.args.bytes.now)
      c.sent.ensures (c.tell.ensures.ok tells) (c.tell.ensures.tape tells);
  told = c.tell.ensures.told;
  kept = λ untold. ap passages (c.tell.ensures.kept untold);
}

pub returns-in_err-push_back : goal.returns-in_err-push_back
returns-in_err-push_back c = record {
  tape = λ tells. on_tape c.sent.result c.args.self.now.tape.items c.tell.new.self.tape.items (Sent c.args.from c.args.to c.args.bytes.now)
      c.sent.ensures (c.tell.ensures.ok tells) (c.tell.ensures.tape tells);
  told = c.tell.ensures.told;
  kept = λ untold. ap passages (c.tell.ensures.kept untold);
}

pub returns : goal.returns
returns c = record {
  tape = λ tells. on_tape c.sent.result c.args.self.now.tape.items c.tell.new.self.tape.items (Sent c.args.from c.args.to c.args.bytes.now)
      c.sent.ensures (c.tell.ensures.ok tells) (c.tell.ensures.tape tells);
  told = c.tell.ensures.told;
  kept = λ untold. ap passages (c.tell.ensures.kept untold);
}
