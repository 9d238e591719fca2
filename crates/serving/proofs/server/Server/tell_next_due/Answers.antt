use Rattle.serving.specs.Seen.{process_of, server_of}
use Rattle.serving.proofs.Answering.{clients_due, clients_line, clients_still}
use Rattle.std.proofs.Common.{[], ◌∷◌, ap, refl, ◌∙◌, ℕ, List, length, arith}
use Rattle.serving.specs.declared.waiting.Due.{Due}
use Rattle.serving.specs.Waitings.{WaitingState}
use Rattle.life.specs.Seen.{life_of}
use Rattle.serving.proofs.MovesOut.{asked_holds_nothing, asked_keeps_own, passes_asked, passes_line, passes_still}
use Rattle.serving.specs.Tapes.{Told, told_in}
use Rattle.serving.proofs.Passing.{passes_as}
use Rattle.serving.proofs.Breaking.{on_err}
use Rattle.serving.proofs.Ending.{ends_before}
use Rattle.serving.specs.Ending.{IsAsked}
use Rattle.std.proofs.lemmas.Result.{err_from_is_err_and}
use Rattle.serving.proofs.server.Server.tell_next_due.Goals as goal

pub returns-in_default-clause-serves : goal.returns-in_default-clause-serves
returns-in_default-clause-serves g c =
    clients_still g.S.Stable g.D.Desk.tape g.D.Desk.Tells (server_of c.args.self.now) c.take_due.new.self c.args.desk.now c.in_default.ensures.unchanged

pub returns-in_err-tell-in-Line-clause-serves : goal.returns-in_err-tell-in-Line-clause-serves
returns-in_err-tell-in-Line-clause-serves g c =
    clients_line g.S.Stable g.D.Desk.tape g.D.Desk.Tells (server_of c.args.self.now) c.take_due.new.self c.in-Some.what c.in-Line.connection c.in-Line.line c.as_slice.result.now c.args.desk.now c.tell.new.self
    c.tell.result c.in-Some.ensures.next c.in-Some.ensures.others c.in-Line.is c.as_slice.ensures.value c.tell.ensures.tape
    c.tell.ensures.told

pub returns-in_ok-tell-in-Line-clause-serves : goal.returns-in_ok-tell-in-Line-clause-serves
returns-in_ok-tell-in-Line-clause-serves g c =
    clients_line g.S.Stable g.D.Desk.tape g.D.Desk.Tells (server_of c.args.self.now) c.take_due.new.self c.in-Some.what c.in-Line.connection c.in-Line.line c.as_slice.result.now c.args.desk.now c.tell.new.self
    c.tell.result c.in-Some.ensures.next c.in-Some.ensures.others c.in-Line.is c.as_slice.ensures.value c.tell.ensures.tape
    c.tell.ensures.told

pub returns-in_err-was_told-in-Answer-clause-serves : goal.returns-in_err-was_told-in-Answer-clause-serves
returns-in_err-was_told-in-Answer-clause-serves g c =
    clients_due g.S.Stable g.D.Desk.tape g.D.Desk.Tells (server_of c.args.self.now) (server_of c.answer.new.self) c.take_due.new.self c.in-Some.what c.in-Answer.question c.args.desk.now c.answer.new.desk
    c.in-Some.ensures.next c.in-Some.ensures.others c.in-Answer.is c.answer.ensures.serves

pub returns-in_ok-was_told-in-Answer-clause-serves : goal.returns-in_ok-was_told-in-Answer-clause-serves
returns-in_ok-was_told-in-Answer-clause-serves g c =
    clients_due g.S.Stable g.D.Desk.tape g.D.Desk.Tells (server_of c.args.self.now) (server_of c.answer.new.self) c.take_due.new.self c.in-Some.what c.in-Answer.question c.args.desk.now c.answer.new.desk
    c.in-Some.ensures.next c.in-Some.ensures.others c.in-Answer.is c.answer.ensures.serves

pub returns-in_default-clause-less : goal.returns-in_default-clause-less
returns-in_default-clause-less g c =
    omega (arith, ap (λ (w : WaitingState). length w.due) c.in_default.ensures.unchanged, ap {B = ℕ} (λ (ds : List Due). length ds) c.in_default.ensures.next)

pub returns-in_ok-tell-in-Line-clause-less : goal.returns-in_ok-tell-in-Line-clause-less
returns-in_ok-tell-in-Line-clause-less g c =
    omega (arith, ap {B = ℕ} (λ (ds : List Due). length ds) c.in-Some.ensures.next)

pub returns-in_ok-was_told-in-Answer-clause-less : goal.returns-in_ok-was_told-in-Answer-clause-less
returns-in_ok-was_told-in-Answer-clause-less g c =
    omega (arith, ap {B = ℕ} (λ (ds : List Due). length ds) c.in-Some.ensures.next, ap {B = ℕ} (λ (ds : List Due). length ds) c.answer.ensures.due)

pub returns-in_default-clause-moves : goal.returns-in_default-clause-moves
returns-in_default-clause-moves g c = λ now held ripe.
    passes_still g.S.Stable g.D.Desk.tape g.D.Desk.Tells now (process_of c.args.self.now)
    (record (process_of c.args.self.now) { waiting = c.take_due.new.self }) c.args.desk.now
    (ap (λ (w : WaitingState). record (process_of c.args.self.now) { waiting = w }) c.in_default.ensures.unchanged)

pub returns-in_ok-tell-in-Line-clause-moves : goal.returns-in_ok-tell-in-Line-clause-moves
returns-in_ok-tell-in-Line-clause-moves g c = λ now held ripe.
    passes_line g.S.Stable g.D.Desk.tape g.D.Desk.Tells now (process_of c.args.self.now) c.take_due.new.self c.in-Some.what
    c.in-Line.connection c.in-Line.line c.as_slice.result.now c.args.desk.now c.tell.new.self held c.in-Some.ensures.next
    c.in-Some.ensures.others c.in-Line.is c.as_slice.ensures.value
    (passes_as g.D.Desk.tape g.D.Desk.Tells c.args.desk.now c.tell.new.self (told_in c.in-Line.connection c.as_slice.result.now c.tell.result)
    (Told c.in-Line.connection c.as_slice.result.now ∷ []) c.tell.ensures.tape c.tell.ensures.told
    (ap (told_in c.in-Line.connection c.as_slice.result.now) c.in_ok-tell-in-Line.was))

pub returns-in_ok-was_told-in-Answer-clause-moves : goal.returns-in_ok-was_told-in-Answer-clause-moves
returns-in_ok-was_told-in-Answer-clause-moves g c = λ now held ripe.
    passes_asked g.S.Stable g.D.Desk.tape g.D.Desk.Tells now (process_of c.args.self.now) (process_of c.answer.new.self) c.in-Answer.question
    c.take_due.new.self c.args.desk.now c.answer.new.desk c.in_ok-was_told-in-Answer.was_told held ripe
    (c.in-Some.ensures.next ∙ ap (λ (w : Due). w ∷ c.take_due.new.self.due) c.in-Answer.is) c.in-Some.ensures.others
    c.in_ok-was_told-in-Answer.ensures.answers c.answer.ensures.asked c.in_ok-was_told-in-Answer.ensures.holds_back c.answer.ensures.others

pub returns-in_ok-was_told-in-Answer-clause-held : goal.returns-in_ok-was_told-in-Answer-clause-held
returns-in_ok-was_told-in-Answer-clause-held g c =
    asked_holds_nothing g.S.Stable g.D.Desk.tape g.D.Desk.Tells (life_of c.args.self.now.life) (life_of c.answer.new.self.life)
    c.in-Answer.question c.in_ok-was_told-in-Answer.was_told c.args.desk.now c.answer.new.desk c.in_ok-was_told-in-Answer.ensures.answers (λ position at before. (c.in_ok-was_told-in-Answer.ensures.holds_back position at before).1)

pub returns-in_ok-was_told-in-Answer-clause-own : goal.returns-in_ok-was_told-in-Answer-clause-own
returns-in_ok-was_told-in-Answer-clause-own g c =
    asked_keeps_own g.S.Stable g.D.Desk.tape g.D.Desk.Tells (life_of c.args.self.now.life) (life_of c.answer.new.self.life)
    c.in-Answer.question c.in_ok-was_told-in-Answer.was_told c.args.desk.now c.answer.new.desk c.in_ok-was_told-in-Answer.ensures.answers (λ position at before. (c.in_ok-was_told-in-Answer.ensures.holds_back position at before).1)

pub returns-in_err-tell-in-Line-clause-breaks : goal.returns-in_err-tell-in-Line-clause-breaks
returns-in_err-tell-in-Line-clause-breaks g c =
    on_err _ (
    passes_as g.D.Desk.tape g.D.Desk.Tells c.args.desk.now c.tell.new.self (told_in c.in-Line.connection c.as_slice.result.now c.tell.result) []
    c.tell.ensures.tape c.tell.ensures.told (ap (told_in c.in-Line.connection c.as_slice.result.now) c.in_err-tell-in-Line.was))

pub returns-in_err-tell-in-Line-clause-stops : goal.returns-in_err-tell-in-Line-clause-stops
returns-in_err-tell-in-Line-clause-stops g c =
    let p = err_from_is_err_and c.from_residual.result c.from_residual.ensures.1 in
    rw p.1 (ends_before g.S.Stable IsAsked _ _ p.0 p.2 refl)

pub returns-in_err-was_told-in-Answer-clause-stops : goal.returns-in_err-was_told-in-Answer-clause-stops
returns-in_err-was_told-in-Answer-clause-stops g c =
    let p = err_from_is_err_and c.from_residual-in_err-was_told-in-Answer.result c.from_residual-in_err-was_told-in-Answer.ensures.1 in
    rw (p.1, p.2) c.in_err-was_told-in-Answer.ensures.stops
