use Rattle.std.proofs.lemmas.Option.{MatchOption-at_none}
use Rattle.restrict.proofs.period_cut.value_at.Goals as goal

pub returns-in-None : goal.returns-in-None
returns-in-None c = λ h. MatchOption-at_none _ _ c.in-None.is c.value_at.ensures.value h.v h.value
