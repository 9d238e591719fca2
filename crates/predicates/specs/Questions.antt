-- One of the two questions, asked of any values.
use Rattle.std.specs.Prelude.{Bool, true, false}
use Rattle.tpoint.specs.Fraction.{Fraction}
use Rattle.tpoint.specs.Moving.{Position}
use Rattle.tpoint.specs.Extents.{Span, Area}
use Rattle.predicates.specs.Predicates.{EverOf, AlwaysOf}
use Rattle.predicates.specs.declared.questions.Tri.{Tri}
use Rattle.predicates.specs.declared.questions.Tri.TheVariants.{Yes, No}
use Rattle.predicates.specs.declared.questions.Question.{Question}
use Rattle.predicates.specs.declared.questions.Question.TheVariants.{Ever, Always}

abbrev pub AnswersQuestion : Question → (Fraction → Position → Type 0) → Span → Area → Tri → Type 0
AnswersQuestion Ever = EverOf
AnswersQuestion Always = AlwaysOf

-- the answer of a part that is the answer of the whole: that it is once inside, or once outside
abbrev pub decides : Question → Tri → Bool
decides Ever Yes = true
decides Always No = true
decides _ _ = false
