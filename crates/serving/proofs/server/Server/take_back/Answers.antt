use Rattle.std.proofs.Common.{[], refl, Bool, Result, subst}
use Rattle.life.specs.Seen.{life_of}
use Rattle.life.specs.Lives.{TakesBack}
use Rattle.life.specs.declared.fault.LifeFault.{LifeFault}
use Rattle.serving.specs.Seen.{server_of}
use Rattle.serving.proofs.Holding.{holds_same}
use Rattle.serving.proofs.Leading.{serves_taking_back}
use Rattle.serving.proofs.Arriving.{refused_back, taken_back}
use Rattle.serving.proofs.Ending.{ends_back}
use Rattle.std.proofs.lemmas.Result.{err_from_is_err_and}
use Rattle.serving.proofs.server.Server.take_back.Goals as goal

pub returns-in-Ok-clause-serves : goal.returns-in-Ok-clause-serves
returns-in-Ok-clause-serves g c =
    serves_taking_back g.S.Stable c.take_back.result (server_of c.args.self.now) _ c.take_back.ensures
    (holds_same [] (server_of c.args.self.now) _ refl refl)

pub returns-in_err-refusal-in-Err-clause-serves : goal.returns-in_err-refusal-in-Err-clause-serves
returns-in_err-refusal-in-Err-clause-serves g c =
    serves_taking_back g.S.Stable c.take_back.result (server_of c.args.self.now) _ c.take_back.ensures
    (holds_same [] (server_of c.args.self.now) _ refl refl)

pub returns-in_ok-refusal-in-Err-clause-serves : goal.returns-in_ok-refusal-in-Err-clause-serves
returns-in_ok-refusal-in-Err-clause-serves g c =
    serves_taking_back g.S.Stable c.take_back.result (server_of c.args.self.now) _ c.take_back.ensures
    (holds_same [] (server_of c.args.self.now) _ refl refl)

pub returns-in-Ok-clause-takes : goal.returns-in-Ok-clause-takes
returns-in-Ok-clause-takes g c =
    taken_back g.S.Stable (life_of c.args.self.now.life) (life_of c.take_back.new.self) c.in-Ok.taken
    (subst (λ (r : Result Bool LifeFault). TakesBack g.S.Stable (life_of c.args.self.now.life) r (life_of c.take_back.new.self)) c.in-Ok.is
    c.take_back.ensures)

pub returns-in_ok-refusal-in-Err-clause-takes : goal.returns-in_ok-refusal-in-Err-clause-takes
returns-in_ok-refusal-in-Err-clause-takes g c =
    refused_back g.S.Stable (life_of c.args.self.now.life) (life_of c.take_back.new.self) c.in-Err.fault c.in_ok-refusal-in-Err.field-0
    (subst (λ (r : Result Bool LifeFault). TakesBack g.S.Stable (life_of c.args.self.now.life) r (life_of c.take_back.new.self)) c.in-Err.is
    c.take_back.ensures)
    c.in_ok-refusal-in-Err.ensures

pub returns-in_err-refusal-in-Err-clause-stops : goal.returns-in_err-refusal-in-Err-clause-stops
returns-in_err-refusal-in-Err-clause-stops g c =
    let p = err_from_is_err_and c.from_residual.result c.from_residual.ensures.1 in
    rw (p.1, p.2) (ends_back g.S.Stable (life_of c.args.self.now.life) (life_of c.take_back.new.self) c.in-Err.fault _
    (subst (λ (r : Result Bool LifeFault). TakesBack g.S.Stable (life_of c.args.self.now.life) r (life_of c.take_back.new.self)) c.in-Err.is
    c.take_back.ensures) c.in_err-refusal-in-Err.ensures)
