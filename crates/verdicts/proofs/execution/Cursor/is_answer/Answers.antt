use Rattle.std.proofs.Common.{sym, ◌∙◌, subst}
use Rattle.sessions.specs.Meaning.{Answers}
use Rattle.verdicts.proofs.execution.Cursor.is_answer.Goals as goal

pub returns : goal.returns
returns c = λ l stands valid.
    let said = c.in_ok-answer.ensures.answers.answers l stands in
    let here = c.deref.ensures.value in (
      λ yes. (c.if-question-node.false, subst (λ text. Answers l c.args.question.now.query text) (sym here ∙ c.is_same.ensures.0 yes) said),
      λ h. c.is_same.ensures.1 (here ∙ c.one_answer_to_each_query.ensures l c.args.question.now.query c.in_ok-answer.answer.items c.args.text.now valid said h.1),
    )
