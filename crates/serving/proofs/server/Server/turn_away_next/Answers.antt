use Rattle.std.proofs.Common.{◌∷◌, ◌++◌, [], ℕ, List, ap, refl, sym, subst, length, ◌∙◌, arith}
use Rattle.clients.specs.AnswerLines.{answer_line}
use Rattle.clients.specs.declared.answer.ClientAnswer.TheVariants as answer
use Rattle.serving.specs.declared.claims.Claim.{Claim}
use Rattle.serving.specs.declared.waiting.Due.TheVariants as due
use Rattle.serving.specs.Seen.{process_of, server_of}
use Rattle.serving.specs.Serving.{Serves}
use Rattle.serving.specs.Waitings.{WaitingState}
use Rattle.serving.proofs.Leading.{serves_none}
use Rattle.serving.proofs.Ripening.{serves_forgetting, serves_turning_away}
use Rattle.serving.proofs.Moving.{moves_same}
use Rattle.serving.proofs.MovesOut.{moves_turning_away}
use Rattle.serving.proofs.server.Server.turn_away_next.Goals as goal

pub returns-in_default-clause-serves : goal.returns-in_default-clause-serves
returns-in_default-clause-serves g c =
    subst (λ (w : WaitingState). Serves g.S.Stable (server_of c.args.self.now) [] [] (record (server_of c.args.self.now) { waiting = w }))
    (sym c.in_default.ensures.unchanged) (serves_none g.S.Stable (server_of c.args.self.now))

pub returns-in_err-line-clause-serves : goal.returns-in_err-line-clause-serves
returns-in_err-line-clause-serves g c =
    serves_forgetting g.S.Stable (server_of c.args.self.now) _ c.in-Some.claim c.take_claim.new.self.claims refl c.in-Some.ensures.next
    c.in-Some.ensures.others refl

pub returns-in_err-add_due-clause-serves : goal.returns-in_err-add_due-clause-serves
returns-in_err-add_due-clause-serves g c =
    serves_forgetting g.S.Stable (server_of c.args.self.now) (record (server_of c.args.self.now) { waiting = c.add_due.new.self })
    c.in-Some.claim c.take_claim.new.self.claims refl c.in-Some.ensures.next (c.in_err-add_due.ensures.err ∙ c.in-Some.ensures.others) refl

pub returns-clause-serves : goal.returns-clause-serves
returns-clause-serves g c =
    serves_turning_away g.S.Stable (server_of c.args.self.now) (record (server_of c.args.self.now) { waiting = c.add_due.new.self })
    c.in-Some.claim c.take_claim.new.self.claims c.in_ok-line.line c.requires refl c.in-Some.ensures.next
    (c.in_ok-line.ensures ∙ ap (λ (k : ℕ). answer_line (answer.Refused c.in-Some.claim.client c.in-Some.claim.number k)) c.code.ensures)
    (c.in_ok-add_due.ensures.added
    ∙ ap (λ (w : WaitingState). record w { due = w.due ++ due.Line c.in-Some.claim.connection c.in_ok-line.line ∷ [] })
    c.in-Some.ensures.others)
    refl

pub returns-in_default-clause-less : goal.returns-in_default-clause-less
returns-in_default-clause-less g c =
    omega (arith, ap (λ (w : WaitingState). length w.claims) c.in_default.ensures.unchanged, ap {B = ℕ} (λ (cs : List Claim). length cs) c.in_default.ensures.next)

pub returns-clause-less : goal.returns-clause-less
returns-clause-less g c =
    omega (
      arith,
      ap {B = ℕ} (λ (cs : List Claim). length cs) c.in-Some.ensures.next,
      ap (λ (w : WaitingState). length w.claims) c.in_ok-add_due.ensures.added,
    )

pub returns-in_default-clause-moves : goal.returns-in_default-clause-moves
returns-in_default-clause-moves g c = λ now held.
    moves_same g.S.Stable now (process_of c.args.self.now) (record (process_of c.args.self.now) { waiting = c.take_claim.new.self })
    (ap (λ (w : WaitingState). record (process_of c.args.self.now) { waiting = w }) c.in_default.ensures.unchanged)

pub returns-clause-moves : goal.returns-clause-moves
returns-clause-moves g c = λ now held.
    moves_turning_away g.S.Stable now (process_of c.args.self.now) c.add_due.new.self c.in-Some.claim c.take_claim.new.self.claims
    c.in_ok-line.line held c.requires c.in-Some.ensures.next
    (c.in_ok-line.ensures ∙ ap (λ (k : ℕ). answer_line (answer.Refused c.in-Some.claim.client c.in-Some.claim.number k)) c.code.ensures)
    (c.in_ok-add_due.ensures.added
    ∙ ap (λ (w : WaitingState). record w { due = w.due ++ due.Line c.in-Some.claim.connection c.in_ok-line.line ∷ [] })
    c.in-Some.ensures.others)
