use Rattle.std.proofs.Common.{ℕ, ◌<◌, ◌≤◌}
use Rattle.tpoint.specs.Places.{EachAt}
use Rattle.tpoint.specs.Extents.{Inside}
use Rattle.tpoint.specs.Pieces.{OnPiece, place}
use Rattle.tpoint.specs.declared.interp.Interp.TheVariants.{Linear}
use Rattle.tpoint.specs.declared.point.Point.{Point}
use Rattle.predicates.specs.declared.questions.Question.TheVariants.{Always}
use Rattle.predicates.specs.declared.questions.Tri.TheVariants.{Yes}
use Rattle.predicates.specs.Questions.{AnswersQuestion}
use Rattle.predicates.proofs.runs.first_left.Given as goal

abbrev pub invariant-loop-k : goal.invariant-loop-k
invariant-loop-k l =
    ((j : ℕ) → l.from ≤ j → j < l.k → AnswersQuestion Always (OnPiece Linear l.points j) l.period l.area Yes)
    × EachAt l.points (λ (p : Point). Inside (place p) l.area) l.k
