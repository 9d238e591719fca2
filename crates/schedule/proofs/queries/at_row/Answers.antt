use Rattle.std.proofs.Common.{refl}
use Rattle.schedule.proofs.queries.at_row.Goals as goal

pub returns : goal.returns
returns c =
    rw c.in_ok-name.ensures
    (λ n. ((c.in-Some.id, (c.in-Some-instant.t, tt)), (refl, (c.in-Some.ensures, (c.in-Some-instant.ensures, tt))), refl))
