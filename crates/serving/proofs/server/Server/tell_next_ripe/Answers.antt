use Rattle.serving.specs.Seen.{process_of, server_of}
use Rattle.serving.proofs.Answering.{clients_ripening, clients_still}
use Rattle.std.proofs.Common.{ap, arith, length, refl}
use Rattle.serving.specs.Waitings.{WaitingState}
use Rattle.serving.proofs.Ripening.{none_ripe_at, none_ripe_same, one_less}
use Rattle.life.specs.Seen.{life_of}
use Rattle.serving.proofs.MovesOut.{answer_holds_nothing, answer_keeps_own, passes_ripe, passes_still}
use Rattle.std.proofs.lemmas.Result.{err_from_is_err_and}
use Rattle.serving.proofs.server.Server.tell_next_ripe.Goals as goal

pub returns-in_default-clause-serves : goal.returns-in_default-clause-serves
returns-in_default-clause-serves g c =
    clients_still g.S.Stable g.D.Desk.tape g.D.Desk.Tells (server_of c.args.self.now) c.ripe.new.self c.args.desk.now c.in_default.ensures.unchanged

pub returns-in_err-answer-clause-serves : goal.returns-in_err-answer-clause-serves
returns-in_err-answer-clause-serves g c =
    clients_ripening g.S.Stable g.D.Desk.tape g.D.Desk.Tells (server_of c.args.self.now) (server_of c.answer.new.self) c.ripe.new.self c.position-position.result c.in-Some.question c.args.desk.now c.answer.new.desk
    c.in-Some.ensures.others c.in-Some.ensures.first c.answer.ensures.serves

pub returns-clause-serves : goal.returns-clause-serves
returns-clause-serves g c =
    clients_ripening g.S.Stable g.D.Desk.tape g.D.Desk.Tells (server_of c.args.self.now) (server_of c.answer.new.self) c.ripe.new.self c.position-position.result c.in-Some.question c.args.desk.now c.answer.new.desk
    c.in-Some.ensures.others c.in-Some.ensures.first c.answer.ensures.serves

pub returns-in_default-clause-less : goal.returns-in_default-clause-less
returns-in_default-clause-less g c =
    none_ripe_same (life_of c.args.self.now.life).node (life_of c.args.self.now.life).node c.args.self.now.waiting.questions
    c.ripe.new.self.questions refl (ap (λ (w : WaitingState). w.questions) c.in_default.ensures.unchanged)
    (none_ripe_at (life_of c.args.self.now.life).node c.position-position.result c.args.self.now.waiting.questions
    c.position-position.ensures c.in_default.ensures.none)

pub returns-clause-less : goal.returns-clause-less
returns-clause-less g c =
    omega (
      arith,
      one_less c.position-position.result c.args.self.now.waiting.questions c.ripe.new.self.questions c.in-Some.question
          c.in-Some.ensures.first,
      ap (λ (w : WaitingState). length w.questions)
          (c.answer.ensures.asked c.position-position.result c.position-position.ensures c.in-Some.ensures.first.ripe),
    )

pub returns-in_default-clause-moves : goal.returns-in_default-clause-moves
returns-in_default-clause-moves g c = λ now held.
    passes_still g.S.Stable g.D.Desk.tape g.D.Desk.Tells now (process_of c.args.self.now)
    (record (process_of c.args.self.now) { waiting = c.ripe.new.self }) c.args.desk.now
    (ap (λ (w : WaitingState). record (process_of c.args.self.now) { waiting = w }) c.in_default.ensures.unchanged)

pub returns-clause-moves : goal.returns-clause-moves
returns-clause-moves g c = λ now held.
    passes_ripe g.S.Stable g.D.Desk.tape g.D.Desk.Tells now (process_of c.args.self.now) (process_of c.answer.new.self)
    c.position-position.result c.in-Some.question c.ripe.new.self c.args.desk.now c.answer.new.desk held c.position-position.ensures
    c.in-Some.ensures.first c.in-Some.ensures.others
    (c.in_ok-answer.ensures.answers c.position-position.result c.position-position.ensures c.in-Some.ensures.first.ripe).1
    c.answer.ensures.others
    (c.answer.ensures.asked c.position-position.result c.position-position.ensures c.in-Some.ensures.first.ripe)

pub returns-clause-held : goal.returns-clause-held
returns-clause-held g c = λ held.
    answer_holds_nothing g.S.Stable g.D.Desk.tape g.D.Desk.Tells (life_of c.args.self.now.life) (life_of c.answer.new.self.life)
    c.in-Some.question c.args.desk.now c.answer.new.desk
    (c.in_ok-answer.ensures.answers c.position-position.result c.position-position.ensures c.in-Some.ensures.first.ripe).1

pub returns-clause-own : goal.returns-clause-own
returns-clause-own g c =
    answer_keeps_own g.S.Stable g.D.Desk.tape g.D.Desk.Tells (life_of c.args.self.now.life) (life_of c.answer.new.self.life)
    c.in-Some.question c.args.desk.now c.answer.new.desk
    (c.in_ok-answer.ensures.answers c.position-position.result c.position-position.ensures c.in-Some.ensures.first.ripe).1

pub returns-in_err-answer-clause-stops : goal.returns-in_err-answer-clause-stops
returns-in_err-answer-clause-stops g c =
    let p = err_from_is_err_and c.from_residual.result c.from_residual.ensures.1 in
    rw (p.1, p.2) c.in_err-answer.ensures.stops
