use Rattle.std.proofs.Common.{take}
use Rattle.predicates.specs.Predicates.{IsEver}
use Rattle.predicates.specs.declared.questions.Tri.TheVariants.{Yes}
use Rattle.store.specs.Answers.{AreIdsOf}
use Rattle.store.proofs.answers.ids_within.Given as goal

-- of the features up to this one, the ids of those that are ever in the rectangle
abbrev pub invariant-loop-place : goal.invariant-loop-place
invariant-loop-place l = AreIdsOf (λ f. IsEver f.seq l.period l.area Yes) (take l.place l.features) l.ids.items
