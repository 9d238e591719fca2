use Rattle.std.proofs.Common.{refl}
use Rattle.schedule.proofs.submits.removal.Goals as goal

pub returns : goal.returns
returns c = rw c.in_ok-only.ensures (λ n. ((c.in-Some.id, tt), (refl, (c.in-Some.ensures, tt)), refl))
