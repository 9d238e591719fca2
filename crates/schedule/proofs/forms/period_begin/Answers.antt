use Rattle.std.proofs.Common.{inr, refl, codes}
use Rattle.schedule.proofs.forms.period_begin.Goals as goal

pub returns-in-Some : goal.returns-in-Some
returns-in-Some c =
    record { mark = codes "["; text = _; spelling = c.in-Some.ensures; opens = inr refl; reads = c.in_ok-instant.ensures }
