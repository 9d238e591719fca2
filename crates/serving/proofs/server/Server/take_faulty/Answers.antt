use Rattle.std.proofs.Common.{ℕ, [], ◌∷◌, ap, refl, subst}
use Rattle.std.proofs.lemmas.List.Elements.{Contains-push}
use Rattle.schedule.specs.declared.replay_fault.ReplayCause.{ReplayCause}
use Rattle.clients.specs.ClientLines.{IsClientFault}
use Rattle.clients.specs.AnswerLines.{answer_line}
use Rattle.clients.specs.declared.answer.ClientAnswer.TheVariants as answer
use Rattle.serving.specs.Seen.{process_of, server_of}
use Rattle.serving.specs.Tapes.{Heard}
use Rattle.serving.specs.Turns.{faulty}
use Rattle.serving.proofs.Coming.{serves_line_heard}
use Rattle.serving.proofs.Hearing.{line_owed, own_fault}
use Rattle.serving.proofs.Packets.{on_fault_so, on_ok_so}
use Rattle.serving.proofs.Holding.{holds_same}
use Rattle.serving.proofs.Ending.{ends_before}
use Rattle.serving.specs.Ending.{IsOfOthers}
use Rattle.life.specs.Seen.{life_of}
use Rattle.serving.proofs.server.Server.take_faulty.Goals as goal

pub returns-in-World-clause-serves : goal.returns-in-World-clause-serves
returns-in-World-clause-serves g c =
    serves_line_heard g.S.Stable (server_of c.args.self.now) _ c.args.connection c.args.text.now refl
    (holds_same (Heard c.args.connection c.args.text.now ∷ []) (server_of c.args.self.now) _ refl refl)

pub owe-requires : goal.owe-requires
owe-requires g c =
    faulty c.args.text.now c.in-Schedule.found (Contains-push [] (Heard c.args.connection c.args.text.now))
    (subst (λ (r : ReplayCause). IsClientFault c.args.text.now r) c.in-Schedule.is c.requires)
    (ap (λ (n : ℕ). answer_line (answer.Fault n)) c.code-code.ensures)

pub returns-in-Schedule-clause-taken : goal.returns-in-Schedule-clause-taken
returns-in-Schedule-clause-taken g c =
    on_ok_so c.owe.result
    (line_owed g.S.Stable (process_of c.args.self.now) (process_of c.owe.new.self) c.args.connection c.args.text.now
    (answer_line (answer.Fault c.code-code.result))
    (own_fault (process_of c.args.self.now) c.args.text.now (answer_line (answer.Fault c.code-code.result)) c.in-Schedule.found
    (subst (λ (r : ReplayCause). IsClientFault c.args.text.now r) c.in-Schedule.is c.requires)
    (ap (λ (n : ℕ). answer_line (answer.Fault n)) c.code-code.ensures)))
    c.owe.ensures.owes

pub returns-in-Schedule-clause-stops : goal.returns-in-Schedule-clause-stops
returns-in-Schedule-clause-stops g c =
    on_fault_so c.owe.result
    (λ fault is. ends_before g.S.Stable IsOfOthers _ _ fault is (ap (λ l. (life_of l).node) c.owe.ensures.life)) c.owe.ensures.memory

pub returns-in-World-clause-stops : goal.returns-in-World-clause-stops
returns-in-World-clause-stops g c = ends_before g.S.Stable IsOfOthers _ _ _ refl refl
