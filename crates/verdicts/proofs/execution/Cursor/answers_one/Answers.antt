use Rattle.std.proofs.Common.{◌≡◌, All, refl, sym, subst}
use Rattle.std.proofs.lemmas.List.{take_all}
use Rattle.std.proofs.lemmas.List.Elements.{All-more, All-contains}
use Rattle.sessions.specs.Meaning.{Answers}
use Rattle.verdicts.specs.declared.lines.Question.{Question}
use Rattle.verdicts.proofs.execution.Cursor.answers_one.Goals as goal

pub returns-then-branch : goal.returns-then-branch
returns-then-branch c = λ l stands valid.
    let h = (c.in_ok-is_answer.ensures l stands valid).0 c.if-branch.true in (
      λ _. record {
        question = c.question-item.result;
        asked = (c.loop-question.question-index, c.loop-question-test.true, sym c.question-item.is);
        of_node = h.0;
        answers = h.1;
      },
      λ _. refl,
    )

pub loop-question-preserved : goal.loop-question-preserved
loop-question-preserved c = λ k stands valid.
    let P : Question → Type 0 = λ q. (q.node ≡ c.args.node) × Answers k q.query c.args.text.now → ⊥ in
    let none : P c.question-item.result =
    λ h. (let t = (c.in_ok-is_answer.ensures k stands valid).1 h in let f = c.if-branch.false in cc) in
    All-more P c.args.questions.now c.loop-question.question-index c.question-item.result c.loop-question-test.true
    (c.loop-question.invariant k stands valid) (subst P c.question-item.is none)

pub returns : goal.returns
returns c = λ l stands valid.
    let all = c.loop-question.invariant l stands valid in
    let P : Question → Type 0 = λ q. (q.node ≡ c.args.node) × Answers l q.query c.args.text.now → ⊥ in
    let none : All P c.args.questions.now =
    subst (All P) (take_all c.loop-question.question-index c.args.questions.now c.loop-question-test.false) all in
    (λ e. absurd (cc), λ a. absurd (All-contains P c.args.questions.now a.question none a.asked (a.of_node, a.answers)))
