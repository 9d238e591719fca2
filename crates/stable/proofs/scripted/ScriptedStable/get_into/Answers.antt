use Rattle.std.proofs.Common.{refl, inr}
use Rattle.stable.proofs.PutLemmas.{read_failed}
use Rattle.stable.proofs.scripted.ScriptedStable.get_into.Goals as goal

pub returns-clause-device : goal.returns-clause-device
returns-clause-device g c is =
    inr (rw (← c.self.view_is) (read_failed _ _ _ _ g.met.S.Stable.laws.reads_none _ _ (c.get_into.ensures.device is) refl))
