-- At most one answer of `ever` is right.
use Rattle.std.proofs.Common.{◌≡◌, ◌⊎◌, inl, inr, subst}
use Rattle.tpoint.specs.Moving.{Sequence}
use Rattle.tpoint.specs.Extents.{Span, Area}
use Rattle.predicates.specs.Predicates.{IsEver}
use Rattle.predicates.specs.declared.questions.Tri.{Tri}
use Rattle.predicates.specs.declared.questions.Tri.TheVariants.{Yes, No, None}

pub not_ever-no : (s : Sequence) (p : Span) (r : Area) → IsEver s p r No → ¬ IsEver s p r Yes
not_ever-no s p r no_answer inside = no_answer.1 inside

-- a value inside is a value
pub not_ever-none : (s : Sequence) (p : Span) (r : Area) → IsEver s p r None → ¬ IsEver s p r Yes
not_ever-none s p r none_shared inside =
    none_shared (record { t = inside.t; v = inside.v; in_period = inside.in_period; value = inside.value })

pub not_ever : (s : Sequence) (p : Span) (r : Area) (a : Tri) → IsEver s p r a →
    (a ≡ No) ⊎ (a ≡ None) → ¬ IsEver s p r Yes
not_ever s p r a told (inl no_answer) = not_ever-no s p r (subst (IsEver s p r) no_answer told)
not_ever s p r a told (inr none_shared) = not_ever-none s p r (subst (IsEver s p r) none_shared told)
