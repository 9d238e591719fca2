-- The answer of a position that does not move.
use Rattle.std.specs.Prelude.{◌≡◌, Bool, true, false}
use Rattle.predicates.specs.declared.questions.Tri.{Tri}
use Rattle.predicates.specs.declared.questions.Tri.TheVariants.{Yes, No, None}

-- whether it is there in the period at all, and whether the rectangle has it
abbrev pub IsStayAnswer : Bool → Type 0 → Tri → Type 0
IsStayAnswer there inside Yes = (there ≡ true) × inside
IsStayAnswer there inside No = (there ≡ true) × ¬ inside
IsStayAnswer there inside None = there ≡ false
