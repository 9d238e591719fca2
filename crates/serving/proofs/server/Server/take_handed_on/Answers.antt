use Rattle.std.proofs.Common.{Option, MatchOption, refl, subst}
use Rattle.sessions.specs.declared.submission.Submission.{Submission}
use Rattle.clients.specs.ClientLines.{IsClientLine}
use Rattle.clients.specs.declared.line.ClientLine.TheVariants as client_line
use Rattle.life.specs.Seen.{life_of}
use Rattle.serving.specs.Packets.{SubmitsNothing}
use Rattle.serving.specs.Seen.{server_of}
use Rattle.serving.specs.Turns.{handed_on}
use Rattle.serving.proofs.Coming.{serves_passing_over}
use Rattle.serving.proofs.Packets.{on_ok_so, passed_over, taken_over}
use Rattle.serving.proofs.Ending.{ends_before}
use Rattle.serving.specs.Ending.{IsOfOthers}
use Rattle.std.proofs.lemmas.Result.{err_from_is_err_and}
use Rattle.serving.proofs.server.Server.take_handed_on.Goals as goal

pub returns-in_default-clause-serves : goal.returns-in_default-clause-serves
returns-in_default-clause-serves g c =
    serves_passing_over g.S.Stable (server_of c.args.self.now) _ (handed_on c.args.line.now) refl refl refl

pub returns-in_err-found-clause-serves : goal.returns-in_err-found-clause-serves
returns-in_err-found-clause-serves g c =
    serves_passing_over g.S.Stable (server_of c.args.self.now) _ (handed_on c.args.line.now) refl refl refl

pub returns-in_default-clause-taken : goal.returns-in_default-clause-taken
returns-in_default-clause-taken g c =
    passed_over g.S.Stable c.args.line.now (life_of c.args.self.now.life)
    (subst (λ (o : Option Submission). MatchOption o (SubmitsNothing c.args.line.now)
    (λ submission. IsClientLine c.args.line.now (client_line.Submit submission))) c.in_default.is c.in_ok-found.ensures.found)

pub returns-clause-taken : goal.returns-clause-taken
returns-clause-taken g c =
    on_ok_so c.submit_once.result
    (taken_over g.S.Stable c.args.line.now (life_of c.args.self.now.life) (life_of c.submit_once.new.self.life) c.in-Some.submission
    (subst (λ (o : Option Submission). MatchOption o (SubmitsNothing c.args.line.now)
    (λ submission. IsClientLine c.args.line.now (client_line.Submit submission))) c.in-Some.is c.in_ok-found.ensures.found))
    c.submit_once.ensures.taken

pub returns-in_err-found-clause-stops : goal.returns-in_err-found-clause-stops
returns-in_err-found-clause-stops g c =
    let p = err_from_is_err_and c.from_residual.result c.from_residual.ensures.1 in
    rw (p.1, p.2) (ends_before g.S.Stable IsOfOthers _ _ _ c.in_err-found.ensures.memory refl)
