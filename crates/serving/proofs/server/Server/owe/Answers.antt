use Rattle.std.proofs.Common.{ℕ, List, [], ◌∷◌, ap, refl, subst, sym}
use Rattle.serving.specs.Seen.{process_of, server_of}
use Rattle.serving.specs.Waitings.{WaitingState}
use Rattle.serving.specs.Tapes.{Heard}
use Rattle.serving.specs.Turns.{IsPlain}
use Rattle.serving.specs.declared.waiting.Due.TheVariants as due
use Rattle.serving.proofs.Coming.{serves_line_heard, serves_owing}
use Rattle.serving.proofs.Holding.{IsNow, holds_same}
use Rattle.serving.proofs.server.Server.owe.Goals as goal

pub returns-in_err-line-clause-serves : goal.returns-in_err-line-clause-serves
returns-in_err-line-clause-serves g c =
    serves_line_heard g.S.Stable (server_of c.args.self.now) _ c.args.connection c.args.text.now refl (holds_same (Heard c.args.connection c.args.text.now ∷ []) (server_of c.args.self.now) _ refl refl)

pub returns-in_err-add_due-clause-serves : goal.returns-in_err-add_due-clause-serves
returns-in_err-add_due-clause-serves g c =
    serves_line_heard g.S.Stable (server_of c.args.self.now) (record (server_of c.args.self.now) { waiting = c.add_due.new.self }) c.args.connection c.args.text.now refl
    (holds_same (Heard c.args.connection c.args.text.now ∷ []) (server_of c.args.self.now) (record (server_of c.args.self.now) { waiting = c.add_due.new.self }) c.in_err-add_due.ensures.err refl)

pub returns-clause-serves : goal.returns-clause-serves
returns-clause-serves g c =
    serves_owing g.S.Stable (server_of c.args.self.now) (record (server_of c.args.self.now) { waiting = c.add_due.new.self }) c.args.connection c.args.text.now (due.Line c.args.connection c.in_ok-line.line) refl
    (subst (λ (b : List ℕ). IsPlain (IsNow (server_of c.args.self.now)) (Heard c.args.connection c.args.text.now ∷ []) c.args.connection b) (sym c.in_ok-line.ensures) c.requires)
    c.in_ok-add_due.ensures.added refl

pub returns-clause-owes : goal.returns-clause-owes
returns-clause-owes g c = (
  c.in_ok-line.line,
  c.in_ok-line.ensures,
  ap (λ (w : WaitingState). record (process_of c.args.self.now) { waiting = w }) c.in_ok-add_due.ensures.added,
)
