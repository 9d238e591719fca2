use Rattle.std.proofs.Common.{◌≡◌, ◌++◌, map, take}
use Rattle.serving.specs.declared.waiting.Question.{Question}
use Rattle.serving.proofs.waiting.Waiting.list_questions.Given as goal

abbrev pub invariant-questions : goal.invariant-questions
invariant-questions l = l.lines.items ≡ l.initial.lines.items ++ map (λ (question : Question). question.connection) (take l.question-index l.self.questions)
