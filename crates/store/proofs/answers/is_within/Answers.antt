use mathlib.Core.Bool.{false≢true}
use Rattle.store.proofs.EverLemmas.{not_ever}
use Rattle.store.proofs.BoundsLemmas.{never_inside}
use Rattle.std.proofs.Common.{rules}
use Rattle.store.proofs.answers.is_within.Goals as goal

-- it is nowhere in the rectangle
pub returns-then-stays_out_of : goal.returns-then-stays_out_of
returns-then-stays_out_of c =
    (λ told. absurd (false≢true told), λ inside. absurd (never_inside _ _ _ (c.stays_out_of.ensures (search rules)) inside))

pub returns-in-No : goal.returns-in-No
returns-in-No c =
    (λ told. absurd (false≢true told), λ inside. absurd (not_ever _ _ _ _ c.ever.ensures c.in-No.is inside))
