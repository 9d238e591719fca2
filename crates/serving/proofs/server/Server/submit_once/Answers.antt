use Rattle.std.proofs.Common.{◌<◌, ◌≤◌, ℕ, inl, inr, refl, subst}
use Rattle.life.specs.Seen.{life_of}
use Rattle.life.specs.Lives.{Does}
use Rattle.node_model.specs.declared.input.Input.{Input}
use Rattle.world_model.specs.Lives.{Took}
use Rattle.node_model.specs.declared.input.Input.TheVariants as input
use Rattle.serving.specs.Seen.{server_of}
use Rattle.serving.specs.Turns.{IsOfProcess, handed_on}
use Rattle.serving.proofs.Coming.{serves_handed_on, serves_passing_over}
use Rattle.serving.proofs.Givings.{was_given}
use Rattle.serving.proofs.Packets.{has_last, not_counted}
use Rattle.serving.proofs.Ending.{ends_took}
use Rattle.serving.specs.Ending.{IsOfOthers}
use Rattle.std.proofs.lemmas.Result.{err_from_is_err_and}
use Rattle.serving.proofs.server.Server.submit_once.Goals as goal

pub returns-then-has_counted-clause-serves : goal.returns-then-has_counted-clause-serves
returns-then-has_counted-clause-serves g c =
    serves_passing_over g.S.Stable (server_of c.args.self.now) _ (handed_on c.args.line.now) refl refl refl

pub returns-in_err-refusal-clause-serves : goal.returns-in_err-refusal-clause-serves
returns-in_err-refusal-clause-serves g c =
    serves_handed_on g.S.Stable (server_of c.args.self.now) _ c.args.line.now c.args.submission c.take.result c.requires
    (subst (λ (i : Input). Does g.S.Stable (life_of c.args.self.now.life) (Took i) c.take.result (life_of c.take.new.self)) c.input_of.ensures
    c.take.ensures) refl refl

pub returns-clause-serves : goal.returns-clause-serves
returns-clause-serves g c =
    serves_handed_on g.S.Stable (server_of c.args.self.now) _ c.args.line.now c.args.submission c.take.result c.requires
    (subst (λ (i : Input). Does g.S.Stable (life_of c.args.self.now.life) (Took i) c.take.result (life_of c.take.new.self)) c.input_of.ensures
    c.take.ensures) refl refl

pub returns-then-has_counted-clause-taken : goal.returns-then-has_counted-clause-taken
returns-then-has_counted-clause-taken g c =
    let last = has_last (life_of c.args.self.now.life).node c.args.submission.client in
    inl (
      last.0,
      last.1,
      subst (λ (n : ℕ). n ≤ last.0) c.value.ensures.value ((c.has_counted.ensures last.0 last.1).0 c.if-has_counted.true),
      refl,
    )

pub returns-clause-taken : goal.returns-clause-taken
returns-clause-taken g c =
    let given : Input = input.Submit c.args.submission.client c.args.submission.number c.args.submission.op in
    let last = has_last (life_of c.args.self.now.life).node c.args.submission.client in
    inr (
      last.0,
      last.1,
      subst (λ (n : ℕ). last.0 < n) c.value.ensures.value
          (not_counted c.has_counted.result c.value.result last.0 c.if-has_counted.false (c.has_counted.ensures last.0 last.1)),
      was_given g.S.Stable (life_of c.args.self.now.life) (life_of c.take.new.self) given c.take.result c.in_ok-refusal.field-0
          (subst (λ (i : Input). Does g.S.Stable (life_of c.args.self.now.life) (Took i) c.take.result (life_of c.take.new.self))
          c.input_of.ensures c.take.ensures) c.in_ok-refusal.ensures,
    )

pub returns-in_err-refusal-clause-stops : goal.returns-in_err-refusal-clause-stops
returns-in_err-refusal-clause-stops g c =
    let p = err_from_is_err_and c.from_residual.result c.from_residual.ensures.1 in
    rw (p.1, p.2) (ends_took g.S.Stable IsOfOthers (life_of c.args.self.now.life) (life_of c.take.new.self) c.input_of.result c.take.result
    _ (λ result no. subst IsOfProcess c.input_of.ensures no) c.take.ensures c.in_err-refusal.ensures)
