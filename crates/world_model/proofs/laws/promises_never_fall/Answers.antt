use Rattle.std.proofs.Common.{refl}
use Rattle.stable.specs.ScriptLaws.{scripted_laws}
use Rattle.world_model.proofs.OneNode.ListedPuts.{script_puts}
use Rattle.world_model.proofs.PromisesKept.{promises_never_fall}
use Rattle.world_model.proofs.laws.promises_never_fall.Goals as goal

pub returns : goal.returns
returns g c =
    promises_never_fall (scripted_laws g.met.S.Stable.laws) (λ s f h. h) (λ s f. refl) (script_puts g.S.Stable g.met.S.Stable.laws)
