use Rattle.std.proofs.Common.{refl}
use Rattle.serving.specs.Seen.{server_of}
use Rattle.serving.proofs.Coming.{serves_given}
use Rattle.life.specs.Seen.{life_of}
use Rattle.serving.proofs.Givings.{was_given}
use Rattle.serving.proofs.Ending.{ends_took}
use Rattle.serving.specs.Ending.{IsGiven}
use Rattle.std.proofs.lemmas.Result.{err_from_is_err_and}
use Rattle.serving.proofs.server.Server.give.Goals as goal

pub returns-in_err-refusal-clause-serves : goal.returns-in_err-refusal-clause-serves
returns-in_err-refusal-clause-serves g c =
    serves_given g.S.Stable (server_of c.args.self.now) _ c.args.input c.take.result c.requires c.take.ensures refl refl

pub returns-clause-serves : goal.returns-clause-serves
returns-clause-serves g c =
    serves_given g.S.Stable (server_of c.args.self.now) _ c.args.input c.take.result c.requires c.take.ensures refl refl

pub returns-clause-gives : goal.returns-clause-gives
returns-clause-gives g c =
    was_given g.S.Stable (life_of c.args.self.now.life) (life_of c.take.new.self) c.args.input c.take.result c.in_ok-refusal.field-0
    c.take.ensures c.in_ok-refusal.ensures

pub returns-in_err-refusal-clause-stops : goal.returns-in_err-refusal-clause-stops
returns-in_err-refusal-clause-stops g c =
    let p = err_from_is_err_and c.from_residual.result c.from_residual.ensures.1 in
    rw (p.1, p.2) (ends_took g.S.Stable (IsGiven c.args.input) (life_of c.args.self.now.life) (life_of c.take.new.self) c.args.input
    c.take.result _ (λ result. refl) c.take.ensures c.in_err-refusal.ensures)
