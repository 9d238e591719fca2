use Rattle.std.proofs.Common.{ℕ, [], ◌∷◌, ap, refl, subst, ◌∙◌, Ok, Option}
use Rattle.life.specs.Seen.{life_of}
use Rattle.life.specs.Lives.{Does}
use Rattle.node_model.specs.declared.input.Input.{Input}
use Rattle.world_model.specs.Lives.{Took}
use Rattle.clients.specs.AnswerLines.{answer_line}
use Rattle.clients.specs.declared.answer.ClientAnswer.TheVariants as answer
use Rattle.clients.specs.declared.line.ClientLine.TheVariants as client_line
use Rattle.node_model.specs.declared.fault.NodeFault.{NodeFault}
use Rattle.serving.specs.Seen.{process_of, server_of}
use Rattle.serving.specs.Tapes.{Heard}
use Rattle.serving.specs.Turns.{IsOfProcess, MayBeHandedOn, refused}
use Rattle.serving.specs.declared.waiting.Due.TheVariants as due
use Rattle.serving.specs.Refusals.{IsRefusal}
use Rattle.serving.specs.Waitings.{WaitingState}
use Rattle.serving.proofs.Coming.{just_asked, just_handed_on, just_written, requests_added, serves_submitting}
use Rattle.serving.proofs.Holding.{holds_claim, holds_due, holds_same}
use Rattle.serving.proofs.Submitted.{refuses_so}
use Rattle.serving.proofs.Hearing.{line_refused, line_submitted}
use Rattle.serving.proofs.Ending.{ends_behind, ends_took}
use Rattle.serving.proofs.Givings.{was_given}
use Rattle.serving.specs.Ending.{IsOfOthers}
use Rattle.std.proofs.lemmas.Result.{err_from_is_err_and}
use Rattle.serving.proofs.server.Server.submit.Goals as goal

pub returns-in_err-fault-clause-serves : goal.returns-in_err-fault-clause-serves
returns-in_err-fault-clause-serves g c =
    serves_submitting g.S.Stable (server_of c.args.self.now) _ c.args.connection c.args.text.now c.args.submission c.take-outcome.result c.requires
    (subst (λ (i : Input). Does g.S.Stable (life_of c.args.self.now.life) (Took i) c.take-outcome.result (life_of c.take-outcome.new.self)) c.input_of.ensures c.take-outcome.ensures)
    (holds_same (Heard c.args.connection c.args.text.now ∷ []) (server_of c.args.self.now) _ refl refl)

pub returns-in_err-line-in-Some-clause-serves : goal.returns-in_err-line-in-Some-clause-serves
returns-in_err-line-in-Some-clause-serves g c =
    serves_submitting g.S.Stable (server_of c.args.self.now) _ c.args.connection c.args.text.now c.args.submission c.take-outcome.result c.requires
    (subst (λ (i : Input). Does g.S.Stable (life_of c.args.self.now.life) (Took i) c.take-outcome.result (life_of c.take-outcome.new.self)) c.input_of.ensures c.take-outcome.ensures)
    (holds_same (Heard c.args.connection c.args.text.now ∷ []) (server_of c.args.self.now) _ refl refl)

pub returns-in_err-add_due-in-Some-clause-serves : goal.returns-in_err-add_due-in-Some-clause-serves
returns-in_err-add_due-in-Some-clause-serves g c =
    serves_submitting g.S.Stable (server_of c.args.self.now) _ c.args.connection c.args.text.now c.args.submission c.take-outcome.result c.requires
    (subst (λ (i : Input). Does g.S.Stable (life_of c.args.self.now.life) (Took i) c.take-outcome.result (life_of c.take-outcome.new.self)) c.input_of.ensures c.take-outcome.ensures)
    (holds_same (Heard c.args.connection c.args.text.now ∷ []) (server_of c.args.self.now) _ c.in_err-add_due-in-Some.ensures.err refl)

pub returns-in_ok-add_due-in-Some-clause-serves : goal.returns-in_ok-add_due-in-Some-clause-serves
returns-in_ok-add_due-in-Some-clause-serves g c =
    serves_submitting g.S.Stable (server_of c.args.self.now) _ c.args.connection c.args.text.now c.args.submission c.take-outcome.result c.requires
    (subst (λ (i : Input). Does g.S.Stable (life_of c.args.self.now.life) (Took i) c.take-outcome.result (life_of c.take-outcome.new.self)) c.input_of.ensures c.take-outcome.ensures)
    (holds_due (Heard c.args.connection c.args.text.now ∷ []) (server_of c.args.self.now) _ (due.Line c.args.connection c.in_ok-line-in-Some.line)
    (refused (life_of c.args.self.now.life).node c.args.submission c.in-Some.fault refl
    (refuses_so g.S.Stable (life_of c.args.self.now.life) (life_of c.take-outcome.new.self) c.args.submission c.in-Some.fault c.take-outcome.result
    (subst (λ (i : Input). Does g.S.Stable (life_of c.args.self.now.life) (Took i) c.take-outcome.result (life_of c.take-outcome.new.self)) c.input_of.ensures c.take-outcome.ensures)
    (subst (λ (o : Option NodeFault). IsRefusal c.take-outcome.result (Ok o)) c.in-Some.is c.in_ok-fault.ensures))
    (just_written c.args.connection c.args.text.now (client_line.Submit c.args.submission) c.requires)
    (c.in_ok-line-in-Some.ensures ∙ ap (λ (n : ℕ). answer_line (answer.Refused c.args.submission.client n c.code-code.result)) c.value-number.ensures.value
    ∙ ap (λ (k : ℕ). answer_line (answer.Refused c.args.submission.client c.args.submission.number k)) c.code-code.ensures)) c.in_ok-add_due-in-Some.ensures.added refl)

pub returns-in_err-add_claim-in-None-clause-serves : goal.returns-in_err-add_claim-in-None-clause-serves
returns-in_err-add_claim-in-None-clause-serves g c =
    serves_submitting g.S.Stable (server_of c.args.self.now) _ c.args.connection c.args.text.now c.args.submission c.take-outcome.result c.requires
    (subst (λ (i : Input). Does g.S.Stable (life_of c.args.self.now.life) (Took i) c.take-outcome.result (life_of c.take-outcome.new.self)) c.input_of.ensures c.take-outcome.ensures)
    (holds_same (Heard c.args.connection c.args.text.now ∷ []) (server_of c.args.self.now) _ c.in_err-add_claim-in-None.ensures.err refl)

pub returns-in_err-add-in-None-clause-serves : goal.returns-in_err-add-in-None-clause-serves
returns-in_err-add-in-None-clause-serves g c =
    serves_submitting g.S.Stable (server_of c.args.self.now) _ c.args.connection c.args.text.now c.args.submission c.take-outcome.result c.requires
    (subst (λ (i : Input). Does g.S.Stable (life_of c.args.self.now.life) (Took i) c.take-outcome.result (life_of c.take-outcome.new.self)) c.input_of.ensures c.take-outcome.ensures)
    (holds_claim (Heard c.args.connection c.args.text.now ∷ []) (server_of c.args.self.now) _ (record { connection = c.args.connection; client = c.args.submission.client; number = c.value-number.result })
    (just_asked c.args.connection c.args.text.now c.args.submission (record { connection = c.args.connection; client = c.args.submission.client; number = c.value-number.result }) c.requires refl refl c.value-number.ensures.value) c.in_ok-add_claim-in-None.ensures.added
    (requests_added c.add.result (MayBeHandedOn (Heard c.args.connection c.args.text.now ∷ [])) c.args.submission.client
    c.value-number.result c.args.text.now c.args.self.now.requests c.add.new.self
    (just_handed_on c.args.connection c.args.text.now c.args.submission c.args.submission.client c.value-number.result c.requires)
    c.add.ensures.added c.add.ensures.err))

pub returns-in_ok-add-in-None-clause-serves : goal.returns-in_ok-add-in-None-clause-serves
returns-in_ok-add-in-None-clause-serves g c =
    serves_submitting g.S.Stable (server_of c.args.self.now) _ c.args.connection c.args.text.now c.args.submission c.take-outcome.result c.requires
    (subst (λ (i : Input). Does g.S.Stable (life_of c.args.self.now.life) (Took i) c.take-outcome.result (life_of c.take-outcome.new.self)) c.input_of.ensures c.take-outcome.ensures)
    (holds_claim (Heard c.args.connection c.args.text.now ∷ []) (server_of c.args.self.now) _ (record { connection = c.args.connection; client = c.args.submission.client; number = c.value-number.result })
    (just_asked c.args.connection c.args.text.now c.args.submission (record { connection = c.args.connection; client = c.args.submission.client; number = c.value-number.result }) c.requires refl refl c.value-number.ensures.value) c.in_ok-add_claim-in-None.ensures.added
    (requests_added c.add.result (MayBeHandedOn (Heard c.args.connection c.args.text.now ∷ [])) c.args.submission.client
    c.value-number.result c.args.text.now c.args.self.now.requests c.add.new.self
    (just_handed_on c.args.connection c.args.text.now c.args.submission c.args.submission.client c.value-number.result c.requires)
    c.add.ensures.added c.add.ensures.err))

pub returns-in_ok-add_due-in-Some-clause-taken : goal.returns-in_ok-add_due-in-Some-clause-taken
returns-in_ok-add_due-in-Some-clause-taken g c =
    line_refused g.S.Stable (process_of c.args.self.now) _ c.args.connection c.args.text.now c.args.submission c.in-Some.fault
    c.take-outcome.result c.in_ok-line-in-Some.line c.requires
    (subst (λ (i : Input). Does g.S.Stable (life_of c.args.self.now.life) (Took i) c.take-outcome.result (life_of c.take-outcome.new.self)) c.input_of.ensures c.take-outcome.ensures)
    (subst (λ (o : Option NodeFault). IsRefusal c.take-outcome.result (Ok o)) c.in-Some.is c.in_ok-fault.ensures)
    (c.in_ok-line-in-Some.ensures ∙ ap (λ (n : ℕ). answer_line (answer.Refused c.args.submission.client n c.code-code.result)) c.value-number.ensures.value
    ∙ ap (λ (k : ℕ). answer_line (answer.Refused c.args.submission.client c.args.submission.number k)) c.code-code.ensures)
    (ap (λ (w : WaitingState). record (process_of c.args.self.now) { life = life_of c.take-outcome.new.self; waiting = w })
    c.in_ok-add_due-in-Some.ensures.added)

pub returns-in_ok-add-in-None-clause-taken : goal.returns-in_ok-add-in-None-clause-taken
returns-in_ok-add-in-None-clause-taken g c =
    line_submitted g.S.Stable (process_of c.args.self.now)
    (record (process_of c.args.self.now) {
      life = life_of c.take-outcome.new.self;
      waiting = c.add_claim.new.self;
      requests = c.add.new.self;
    })
    c.args.connection c.args.text.now c.args.submission c.take-outcome.result c.value-number.result c.value-number.ensures.value c.requires
    (subst (λ (i : Input). Does g.S.Stable (life_of c.args.self.now.life) (Took i) c.take-outcome.result (life_of c.take-outcome.new.self)) c.input_of.ensures c.take-outcome.ensures)
    (subst (λ (o : Option NodeFault). IsRefusal c.take-outcome.result (Ok o)) c.in-None.is c.in_ok-fault.ensures)
    c.in_ok-add_claim-in-None.ensures.added c.in_ok-add-in-None.ensures.added refl

pub returns-in_err-fault-clause-stops : goal.returns-in_err-fault-clause-stops
returns-in_err-fault-clause-stops g c =
    let p = err_from_is_err_and c.from_residual.result c.from_residual.ensures.1 in
    rw (p.1, p.2) (ends_took g.S.Stable IsOfOthers (life_of c.args.self.now.life) (life_of c.take-outcome.new.self) c.input_of.result
    c.take-outcome.result _ (λ result no. subst IsOfProcess c.input_of.ensures no) c.take-outcome.ensures c.in_err-fault.ensures)

pub returns-in_err-line-in-Some-clause-stops : goal.returns-in_err-line-in-Some-clause-stops
returns-in_err-line-in-Some-clause-stops g c =
    let p = err_from_is_err_and c.from_residual-in_err-line-in-Some.result c.from_residual-in_err-line-in-Some.ensures.1 in
    rw p.1 (ends_behind g.S.Stable IsOfOthers (life_of c.args.self.now.life) (life_of c.take-outcome.new.self) c.input_of.result p.0 p.2
    (λ result no. subst IsOfProcess c.input_of.ensures no)
    (was_given g.S.Stable (life_of c.args.self.now.life) (life_of c.take-outcome.new.self) c.input_of.result c.take-outcome.result
    c.in_ok-fault.field-0 c.take-outcome.ensures c.in_ok-fault.ensures))

pub returns-in_err-add_due-in-Some-clause-stops : goal.returns-in_err-add_due-in-Some-clause-stops
returns-in_err-add_due-in-Some-clause-stops g c =
    let p = err_from_is_err_and c.from_residual-in_err-add_due-in-Some.result c.from_residual-in_err-add_due-in-Some.ensures.1 in
    rw p.1 (ends_behind g.S.Stable IsOfOthers (life_of c.args.self.now.life) (life_of c.take-outcome.new.self) c.input_of.result p.0 p.2
    (λ result no. subst IsOfProcess c.input_of.ensures no)
    (was_given g.S.Stable (life_of c.args.self.now.life) (life_of c.take-outcome.new.self) c.input_of.result c.take-outcome.result
    c.in_ok-fault.field-0 c.take-outcome.ensures c.in_ok-fault.ensures))

pub returns-in_err-add_claim-in-None-clause-stops : goal.returns-in_err-add_claim-in-None-clause-stops
returns-in_err-add_claim-in-None-clause-stops g c =
    let p = err_from_is_err_and c.from_residual-in_err-add_claim-in-None.result c.from_residual-in_err-add_claim-in-None.ensures.1 in
    rw p.1 (ends_behind g.S.Stable IsOfOthers (life_of c.args.self.now.life) (life_of c.take-outcome.new.self) c.input_of.result p.0 p.2
    (λ result no. subst IsOfProcess c.input_of.ensures no)
    (was_given g.S.Stable (life_of c.args.self.now.life) (life_of c.take-outcome.new.self) c.input_of.result c.take-outcome.result
    c.in_ok-fault.field-0 c.take-outcome.ensures c.in_ok-fault.ensures))

pub returns-in_err-add-in-None-clause-stops : goal.returns-in_err-add-in-None-clause-stops
returns-in_err-add-in-None-clause-stops g c =
    let p = err_from_is_err_and c.from_residual-in_err-add-in-None.result c.from_residual-in_err-add-in-None.ensures.1 in
    rw p.1 (ends_behind g.S.Stable IsOfOthers (life_of c.args.self.now.life) (life_of c.take-outcome.new.self) c.input_of.result p.0 p.2
    (λ result no. subst IsOfProcess c.input_of.ensures no)
    (was_given g.S.Stable (life_of c.args.self.now.life) (life_of c.take-outcome.new.self) c.input_of.result c.take-outcome.result
    c.in_ok-fault.field-0 c.take-outcome.ensures c.in_ok-fault.ensures))
