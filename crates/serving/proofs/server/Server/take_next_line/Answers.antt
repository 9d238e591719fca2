use Rattle.serving.specs.Tapes.{heard, heard_in}
use Rattle.serving.specs.Waitings.{lines_of}
use Rattle.serving.proofs.Taking.{what_came_is_read, what_came_was_heard}
use Rattle.std.proofs.Common.{Ok, ap, ◌∙◌}
use Rattle.serving.specs.Seen.{process_of, server_of}
use Rattle.serving.proofs.Passing.{clients_read, clients_read_nothing, clients_reading_failed}
use Rattle.serving.proofs.Hearing.{clients_reads, clients_reads_nothing, room_of}
use Rattle.serving.proofs.Breaking.{breaks_failing, breaks_hearing, on_err}
use Rattle.serving.proofs.Stopping.{clients_stop_at}
use Rattle.serving.specs.Tapes.{ReadingFailed}
use Rattle.std.proofs.Common.{refl}
use Rattle.serving.proofs.Ending.{ends_before}
use Rattle.serving.specs.Ending.{IsOfOthers}
use Rattle.std.proofs.lemmas.Result.{err_from_is_err_and}
use Rattle.serving.proofs.server.Server.take_next_line.Goals as goal

pub returns-in_err-came-clause-serves : goal.returns-in_err-came-clause-serves
returns-in_err-came-clause-serves g c =
    clients_reading_failed g.S.Stable g.D.Desk.tape g.D.Desk.Tells (server_of c.args.self.now) _ _ (heard_in (lines_of c.args.self.now.waiting) c.next.result) (ap (heard_in (lines_of c.args.self.now.waiting)) c.in_err-came.was) c.next.ensures.tape c.next.ensures.told

pub returns-in_default-clause-serves : goal.returns-in_default-clause-serves
returns-in_default-clause-serves g c =
    clients_read_nothing g.S.Stable g.D.Desk.tape g.D.Desk.Tells (server_of c.args.self.now) (lines_of c.args.self.now.waiting) _ _ (heard_in (lines_of c.args.self.now.waiting) c.next.result) (ap (heard_in (lines_of c.args.self.now.waiting)) (c.in_ok-came.was ∙ ap Ok c.in_default.is)) c.next.ensures.tape c.next.ensures.told

pub returns-in_err-hear-clause-serves : goal.returns-in_err-hear-clause-serves
returns-in_err-hear-clause-serves g c =
    clients_read g.S.Stable g.D.Desk.tape g.D.Desk.Tells (server_of c.args.self.now) (server_of c.hear.new.self) c.args.desk.now c.next.new.self (heard_in (lines_of c.args.self.now.waiting) c.next.result) (heard c.in-Some.what)
    (ap (heard_in (lines_of c.args.self.now.waiting)) (c.in_ok-came.was ∙ ap Ok c.in-Some.is)) c.next.ensures.tape c.next.ensures.told c.hear.ensures.serves

pub returns-clause-serves : goal.returns-clause-serves
returns-clause-serves g c =
    clients_read g.S.Stable g.D.Desk.tape g.D.Desk.Tells (server_of c.args.self.now) (server_of c.hear.new.self) c.args.desk.now c.next.new.self (heard_in (lines_of c.args.self.now.waiting) c.next.result) (heard c.in-Some.what)
    (ap (heard_in (lines_of c.args.self.now.waiting)) (c.in_ok-came.was ∙ ap Ok c.in-Some.is)) c.next.ensures.tape c.next.ensures.told c.hear.ensures.serves

pub returns-in_default-clause-takes : goal.returns-in_default-clause-takes
returns-in_default-clause-takes g c = λ now.
    clients_reads_nothing g.S.Stable now g.D.Desk.tape g.D.Desk.Tells (process_of c.args.self.now) c.args.desk.now c.next.new.self
    (heard_in (lines_of c.args.self.now.waiting) c.next.result)
    (ap (heard_in (lines_of c.args.self.now.waiting)) (c.in_ok-came.was ∙ ap Ok c.in_default.is)) c.next.ensures.tape c.next.ensures.told

pub returns-clause-takes : goal.returns-clause-takes
returns-clause-takes g c = λ now.
    clients_reads g.S.Stable now g.D.Desk.tape g.D.Desk.Tells (process_of c.args.self.now) (process_of c.hear.new.self)
    c.args.desk.now c.next.new.self (heard_in (lines_of c.args.self.now.waiting) c.next.result) (heard c.in-Some.what)
    (ap (heard_in (lines_of c.args.self.now.waiting)) (c.in_ok-came.was ∙ ap Ok c.in-Some.is)) (what_came_is_read c.in-Some.what)
    c.next.ensures.tape c.next.ensures.told
    (c.in_ok-hear.ensures.moves now
    (room_of c.args.self.now.waiting (heard_in (lines_of c.args.self.now.waiting) c.next.result) (heard c.in-Some.what)
    (ap (heard_in (lines_of c.args.self.now.waiting)) (c.in_ok-came.was ∙ ap Ok c.in-Some.is)) c.next.ensures.room))

pub returns-in_err-came-clause-breaks : goal.returns-in_err-came-clause-breaks
returns-in_err-came-clause-breaks g c =
    on_err _ (
    breaks_failing g.D.Desk.tape g.D.Desk.Tells c.args.self.now.waiting c.args.desk.now c.next.new.self
    (heard_in (lines_of c.args.self.now.waiting) c.next.result) (ap (heard_in (lines_of c.args.self.now.waiting)) c.in_err-came.was)
    c.next.ensures.tape c.next.ensures.told)

pub returns-in_err-hear-clause-breaks : goal.returns-in_err-hear-clause-breaks
returns-in_err-hear-clause-breaks g c =
    on_err _ (
    breaks_hearing g.D.Desk.tape g.D.Desk.Tells c.args.self.now.waiting c.args.desk.now c.next.new.self
    (heard_in (lines_of c.args.self.now.waiting) c.next.result) c.in-Some.what
    (ap (heard_in (lines_of c.args.self.now.waiting)) (c.in_ok-came.was ∙ ap Ok c.in-Some.is)) c.next.ensures.tape c.next.ensures.told)

pub returns-in_err-came-clause-stops : goal.returns-in_err-came-clause-stops
returns-in_err-came-clause-stops g c = λ now.
    let p = err_from_is_err_and c.from_residual.result c.from_residual.ensures.1 in
    rw p.1 (clients_stop_at g.S.Stable now g.D.Desk.tape g.D.Desk.Tells (process_of c.args.self.now) c.args.desk.now c.next.new.self p.0 _
    (heard_in (lines_of c.args.self.now.waiting) c.next.result) ReadingFailed
    (ap (heard_in (lines_of c.args.self.now.waiting)) c.in_err-came.was) tt c.next.ensures.tape c.next.ensures.told
    (ends_before g.S.Stable IsOfOthers _ _ p.0 p.2 refl))

pub returns-in_err-hear-clause-stops : goal.returns-in_err-hear-clause-stops
returns-in_err-hear-clause-stops g c = λ now.
    let p = err_from_is_err_and c.from_residual-in_err-hear.result c.from_residual-in_err-hear.ensures.1 in
    rw (p.1, p.2) (clients_stop_at g.S.Stable now g.D.Desk.tape g.D.Desk.Tells (process_of c.args.self.now) c.args.desk.now c.next.new.self
    _ _ (heard_in (lines_of c.args.self.now.waiting) c.next.result) (heard c.in-Some.what)
    (ap (heard_in (lines_of c.args.self.now.waiting)) (c.in_ok-came.was ∙ ap Ok c.in-Some.is)) (what_came_was_heard c.in-Some.what)
    c.next.ensures.tape c.next.ensures.told c.in_err-hear.ensures.stops)
