use Rattle.std.proofs.Common.{◌≡◌, List, All, take}
use Rattle.sessions.specs.Meaning.{Answers, RequestsAreValid}
use Rattle.sessions.specs.Standing.{StandsFor}
use Rattle.sessions.specs.declared.command.Command.{Command}
use Rattle.verdicts.specs.declared.lines.Question.{Question}
use Rattle.verdicts.proofs.execution.Cursor.answers_one.Given as goal

-- the text answers none of the questions so far that go to the node
abbrev pub invariant-loop-question : goal.invariant-loop-question
invariant-loop-question l = (k : List Command) → StandsFor l.self.machine k → RequestsAreValid k
    → All (λ (q : Question). (q.node ≡ l.node) × Answers k q.query l.text → ⊥) (take l.question-index l.questions)
