use Rattle.std.proofs.Common.{[], ◌∷◌, ap, refl}
use Rattle.serving.specs.Seen.{process_of, server_of}
use Rattle.serving.specs.Tapes.{Heard}
use Rattle.serving.specs.declared.waiting.Due.TheVariants as due
use Rattle.serving.specs.Waitings.{WaitingState}
use Rattle.serving.proofs.Coming.{just_queried, serves_line_heard, serves_owing}
use Rattle.serving.proofs.Holding.{holds_same}
use Rattle.serving.proofs.Hearing.{line_asked}
use Rattle.serving.proofs.Ending.{ends_before}
use Rattle.serving.specs.Ending.{IsOfOthers}
use Rattle.std.proofs.lemmas.Result.{err_from_is_err_and}
use Rattle.serving.proofs.server.Server.ask.Goals as goal

pub returns-in_err-add_due-clause-serves : goal.returns-in_err-add_due-clause-serves
returns-in_err-add_due-clause-serves g c =
    serves_line_heard g.S.Stable (server_of c.args.self.now) (record (server_of c.args.self.now) { waiting = c.add_due.new.self }) c.args.connection c.args.text.now refl
    (holds_same (Heard c.args.connection c.args.text.now ∷ []) (server_of c.args.self.now) (record (server_of c.args.self.now) { waiting = c.add_due.new.self }) c.in_err-add_due.ensures.err refl)

pub returns-clause-serves : goal.returns-clause-serves
returns-clause-serves g c =
    serves_owing g.S.Stable (server_of c.args.self.now) (record (server_of c.args.self.now) { waiting = c.add_due.new.self }) c.args.connection c.args.text.now
    (due.Answer (record { connection = c.args.connection; query = c.args.query; from = c.least_position-from.result })) refl
    (just_queried c.args.connection c.args.text.now c.args.query c.args.position
    (record { connection = c.args.connection; query = c.args.query; from = c.least_position-from.result }) c.requires refl refl
    c.least_position-from.ensures) c.in_ok-add_due.ensures.added refl

pub returns-clause-taken : goal.returns-clause-taken
returns-clause-taken g c =
    line_asked g.S.Stable (process_of c.args.self.now) _ c.args.connection c.args.text.now c.args.query c.args.position
    c.least_position-from.result c.requires c.least_position-from.ensures
    (ap (λ (w : WaitingState). record (process_of c.args.self.now) { waiting = w }) c.in_ok-add_due.ensures.added)

pub returns-in_err-add_due-clause-stops : goal.returns-in_err-add_due-clause-stops
returns-in_err-add_due-clause-stops g c =
    let p = err_from_is_err_and c.from_residual.result c.from_residual.ensures.1 in
    rw p.1 (ends_before g.S.Stable IsOfOthers _ _ p.0 p.2 refl)
