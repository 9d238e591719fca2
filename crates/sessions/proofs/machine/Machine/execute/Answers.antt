use Rattle.std.proofs.Common.{◌≡◌, rules, sym, subst}
use Rattle.std.proofs.lemmas.Result.{IfOk-weaker, on_ok_weaker}
use Rattle.sessions.specs.Machines.{MachineState, after_request}
use Rattle.sessions.specs.Standing.{StandsForOneMore, RepliesOneMore}
use Rattle.sessions.specs.declared.command.Command.{Command}
use Rattle.sessions.specs.declared.command.Command.TheVariants.{Request}
use Rattle.sessions.specs.declared.session_reply.SessionReply.{SessionReply}
use Rattle.sessions.proofs.Standing.{stands_noop, stands_request, replies_request}
use Rattle.sessions.proofs.machine.Machine.execute.Goals as goal

-- a no-op
pub returns-in-NoOp-clause-stands : goal.returns-in-NoOp-clause-stands
returns-in-NoOp-clause-stands c =
    subst (λ (d : Command). StandsForOneMore c.args.self.now c.args.self.now d) (sym c.in-NoOp.is)
    (record { stands = stands_noop c.args.self.now })

pub returns-in-NoOp-clause-effect : goal.returns-in-NoOp-clause-effect
returns-in-NoOp-clause-effect c = search rules

-- a request
pub returns-in-Request-clause-stands : goal.returns-in-Request-clause-stands
returns-in-Request-clause-stands c =
    let facts = c.execute_request.ensures in
    let stands : c.execute_request.new.self ≡ after_request c.args.self.now c.in-Request.request →
    StandsForOneMore c.args.self.now c.execute_request.new.self c.args.command.now =
    λ written.
    subst (λ (d : Command). StandsForOneMore c.args.self.now c.execute_request.new.self d) (sym c.in-Request.is)
    (subst (λ (n : MachineState). StandsForOneMore c.args.self.now n (Request c.in-Request.request)) (sym written)
    (record {
      stands = λ l s. stands_request c.args.self.now l s c.in-Request.request facts.from_one facts.known_client;
    })) in
    on_ok_weaker c.execute_request.result stands facts.effect

pub returns-in-Request-clause-replies : goal.returns-in-Request-clause-replies
returns-in-Request-clause-replies c =
    let facts = c.execute_request.ensures in
    IfOk-weaker c.execute_request.result _ _ (λ told says.
    subst (λ (d : Command). RepliesOneMore c.args.self.now d told) (sym c.in-Request.is)
    (subst (λ (o : SessionReply). RepliesOneMore c.args.self.now (Request c.in-Request.request) o) (sym says)
    (record { replies = λ l s. replies_request c.args.self.now l s c.in-Request.request facts.from_one }))) facts.reply
