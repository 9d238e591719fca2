use Rattle.std.proofs.Common.{ℕ, ◌-◌, ◌<◌, ◌≤◌, length}
use Rattle.tpoint.specs.Pieces.{OnPiece}
use Rattle.tpoint.specs.declared.interp.Interp.TheVariants.{Linear}
use Rattle.predicates.specs.declared.questions.Question.TheVariants.{Ever}
use Rattle.predicates.specs.declared.questions.Tri.TheVariants.{No}
use Rattle.predicates.specs.Questions.{AnswersQuestion}
use Rattle.predicates.proofs.runs.first_met.Given as goal

abbrev pub invariant-loop-k : goal.invariant-loop-k
invariant-loop-k l =
    (l.from ≤ l.k) × (l.k < length l.points)
    × ((j : ℕ) → l.from ≤ j → j < l.k → AnswersQuestion Ever (OnPiece Linear l.points j) l.period l.area No)

abbrev pub decreases-loop-k : goal.decreases-loop-k
decreases-loop-k l = length l.points - l.k
