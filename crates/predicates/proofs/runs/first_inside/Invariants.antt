use Rattle.std.proofs.Common.{ℕ, ◌<◌, ◌≤◌}
use Rattle.tpoint.specs.Pieces.{OnPiece}
use Rattle.predicates.specs.declared.questions.Question.TheVariants.{Ever}
use Rattle.predicates.specs.declared.questions.Tri.TheVariants.{No}
use Rattle.predicates.specs.Questions.{AnswersQuestion}
use Rattle.predicates.proofs.runs.first_inside.Given as goal

abbrev pub invariant-loop-k : goal.invariant-loop-k
invariant-loop-k l =
    (j : ℕ) → l.from ≤ j → j < l.k → AnswersQuestion Ever (OnPiece l.fn.interp l.points j) l.period l.area No
