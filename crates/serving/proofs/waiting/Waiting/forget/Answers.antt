use Rattle.std.proofs.Common.{rules, refl, not}
use Rattle.std.proofs.lemmas.Fn.{filter_same}
use Rattle.serving.specs.declared.waiting.Question.{Question}
use Rattle.serving.specs.declared.waiting.Due.{Due}
use Rattle.serving.specs.Waitings.{is_asked_by, is_told_to}
use Rattle.serving.proofs.waiting.Waiting.forget.Goals as goal

pub returns : goal.returns
returns c =
    let stays = λ (question : Question). not (is_asked_by c.args.connection question) in
    let questions = filter_same _ stays _ (λ x b f' called. search rules) _ _ c.retain.ensures.filtered in
    let tells = λ (due : Due). not (is_told_to c.args.connection due) in
    let due = filter_same _ tells _ (λ x b f' called. search rules) _ _ c.retain-2.ensures.filtered in
    rw (← c.self.view_is, questions, due, c.forget.ensures) refl
