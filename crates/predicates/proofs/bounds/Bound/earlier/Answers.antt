use Rattle.predicates.proofs.BoundLemmas.{ends_earlier, ends_no_earlier}
use Rattle.predicates.proofs.Tests.{told_no}
use Rattle.predicates.proofs.bounds.Bound.earlier.Goals as goal

pub returns-then-is_before : goal.returns-then-is_before
returns-then-is_before c = λ u. (λ h. (ends_earlier _ _ _ _ u (c.is_before.ensures.0 c.if-is_before.true) h, h), λ h. h.1)

pub returns-else-is_before : goal.returns-else-is_before
returns-else-is_before c = λ u. (λ h. (h, ends_no_earlier _ _ _ _ u (told_no c.if-is_before.false c.is_before.ensures.1) h), λ h. h.0)
