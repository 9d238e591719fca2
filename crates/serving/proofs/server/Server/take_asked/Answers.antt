use Rattle.std.proofs.Common.{ap, refl, subst}
use Rattle.life.specs.Seen.{life_of}
use Rattle.clients.specs.ClientLines.{IsClientLine}
use Rattle.clients.specs.declared.line.ClientLine.{ClientLine}
use Rattle.clients.specs.declared.line.ClientLine.TheVariants as client_line
use Rattle.clients.specs.AnswerLines.{answer_line}
use Rattle.clients.specs.declared.answer.ClientAnswer.TheVariants as answer
use Rattle.serving.specs.Turns.{last, status}
use Rattle.serving.specs.Seen.{process_of}
use Rattle.serving.proofs.Hearing.{line_owed, own_last, own_status}
use Rattle.serving.proofs.Packets.{on_fault_so, on_ok_so}
use Rattle.serving.proofs.Coming.{just_written}
use Rattle.serving.proofs.Ending.{ends_before}
use Rattle.serving.specs.Ending.{IsOfOthers}
use Rattle.serving.proofs.server.Server.take_asked.Goals as goal

pub submit-requires : goal.submit-requires
submit-requires g c =
    subst (λ (a : ClientLine). IsClientLine c.args.text.now a) c.in-Submit.is c.requires

pub ask-requires : goal.ask-requires
ask-requires g c =
    subst (λ (a : ClientLine). IsClientLine c.args.text.now a) c.in-Query.is c.requires

pub owe-requires : goal.owe-requires
owe-requires g c =
    status (life_of c.args.self.now.life).node c.status-status.result refl c.status-status.ensures.position (just_written c.args.connection c.args.text.now client_line.Status
    (subst (λ (a : ClientLine). IsClientLine c.args.text.now a) c.in-Status.is c.requires)) refl

pub owe-requires-in-Last : goal.owe-requires-in-Last
owe-requires-in-Last g c =
    last (life_of c.args.self.now.life).node c.in-Last.client c.last_number-number.result refl c.last_number-number.ensures (just_written c.args.connection c.args.text.now (client_line.Last c.in-Last.client)
    (subst (λ (a : ClientLine). IsClientLine c.args.text.now a) c.in-Last.is c.requires)) refl

pub returns-in-Status-clause-taken : goal.returns-in-Status-clause-taken
returns-in-Status-clause-taken g c =
    on_ok_so c.owe.result
    (line_owed g.S.Stable (process_of c.args.self.now) (process_of c.owe.new.self) c.args.connection c.args.text.now
    (answer_line (answer.Status c.status-status.result))
    (own_status (process_of c.args.self.now) c.args.text.now c.status-status.result
    (subst (λ (a : ClientLine). IsClientLine c.args.text.now a) c.in-Status.is c.requires) c.status-status.ensures))
    c.owe.ensures.owes

pub returns-in-Last-clause-taken : goal.returns-in-Last-clause-taken
returns-in-Last-clause-taken g c =
    on_ok_so c.owe-in-Last.result
    (line_owed g.S.Stable (process_of c.args.self.now) (process_of c.owe-in-Last.new.self) c.args.connection c.args.text.now
    (answer_line (answer.Last c.in-Last.client c.last_number-number.result))
    (own_last (process_of c.args.self.now) c.args.text.now c.in-Last.client c.last_number-number.result
    (subst (λ (a : ClientLine). IsClientLine c.args.text.now a) c.in-Last.is c.requires) c.last_number-number.ensures))
    c.owe-in-Last.ensures.owes

pub returns-in-Status-clause-stops : goal.returns-in-Status-clause-stops
returns-in-Status-clause-stops g c =
    on_fault_so c.owe.result
    (λ fault is. ends_before g.S.Stable IsOfOthers _ _ fault is (ap (λ l. (life_of l).node) c.owe.ensures.life)) c.owe.ensures.memory

pub returns-in-Last-clause-stops : goal.returns-in-Last-clause-stops
returns-in-Last-clause-stops g c =
    on_fault_so c.owe-in-Last.result
    (λ fault is. ends_before g.S.Stable IsOfOthers _ _ fault is (ap (λ l. (life_of l).node) c.owe-in-Last.ensures.life)) c.owe-in-Last.ensures.memory
