use Rattle.std.proofs.Common.{Result, refl, subst, sym}
use Rattle.life.specs.Seen.{life_of}
use Rattle.wire.specs.declared.frames.envelope.Envelope.{Envelope}
use Rattle.wire.specs.declared.frames.fault.WireFault.{WireFault}
use Rattle.node_model.specs.declared.input.Input.TheVariants as input
use Rattle.serving.specs.Seen.{server_of}
use Rattle.serving.specs.Packets.{IsMessageTaken}
use Rattle.serving.proofs.Coming.{serves_message, serves_passing_over}
use Rattle.serving.proofs.Givings.{was_given}
use Rattle.serving.proofs.Ending.{ends_before, ends_took}
use Rattle.serving.specs.Ending.{IsOfOthers}
use Rattle.std.proofs.lemmas.Result.{err_from_is_err_and}
use Rattle.serving.proofs.server.Server.take_message.Goals as goal

pub returns-in_err-refusal-in-Ok-clause-serves : goal.returns-in_err-refusal-in-Ok-clause-serves
returns-in_err-refusal-in-Ok-clause-serves g c =
    serves_message g.S.Stable (server_of c.args.self.now) _ c.args.bytes.now c.in-Ok.envelope c.args.self.now.nodes c.receive.result c.in-Ok.ensures.found c.receive.ensures refl refl

pub returns-in_ok-refusal-in-Ok-clause-serves : goal.returns-in_ok-refusal-in-Ok-clause-serves
returns-in_ok-refusal-in-Ok-clause-serves g c =
    serves_message g.S.Stable (server_of c.args.self.now) _ c.args.bytes.now c.in-Ok.envelope c.args.self.now.nodes c.receive.result c.in-Ok.ensures.found c.receive.ensures refl refl

pub returns-in-Err-Memory-clause-serves : goal.returns-in-Err-Memory-clause-serves
returns-in-Err-Memory-clause-serves g c =
    serves_passing_over g.S.Stable (server_of c.args.self.now) _ c.args.bytes.now refl refl refl

pub returns-in-Err-clause-serves : goal.returns-in-Err-clause-serves
returns-in-Err-clause-serves g c =
    serves_passing_over g.S.Stable (server_of c.args.self.now) _ c.args.bytes.now refl refl refl

pub returns-in_ok-refusal-in-Ok-clause-taken : goal.returns-in_ok-refusal-in-Ok-clause-taken
returns-in_ok-refusal-in-Ok-clause-taken g c =
    subst (λ (r : Result Envelope WireFault). IsMessageTaken g.S.Stable c.args.now r (life_of c.args.self.now.life) c.args.self.now.timing
    (life_of c.receive.new.self) c.see.new.self) (sym c.in-Ok.ensures.exact) (
      was_given g.S.Stable (life_of c.args.self.now.life) (life_of c.receive.new.self) (input.Message c.in-Ok.envelope) c.receive.result
          c.in_ok-refusal-in-Ok.field-0 c.receive.ensures c.in_ok-refusal-in-Ok.ensures,
      c.see.ensures,
    )

pub returns-in_err-refusal-in-Ok-clause-stops : goal.returns-in_err-refusal-in-Ok-clause-stops
returns-in_err-refusal-in-Ok-clause-stops g c =
    let p = err_from_is_err_and c.from_residual.result c.from_residual.ensures.1 in
    rw (p.1, p.2) (ends_took g.S.Stable IsOfOthers (life_of c.args.self.now.life) (life_of c.receive.new.self)
    (input.Message c.in-Ok.envelope) c.receive.result _ (λ result no. no) c.receive.ensures c.in_err-refusal-in-Ok.ensures)

pub returns-in-Err-Memory-clause-stops : goal.returns-in-Err-Memory-clause-stops
returns-in-Err-Memory-clause-stops g c = ends_before g.S.Stable IsOfOthers _ _ _ refl refl
