use Rattle.std.proofs.Common.{refl}
use Rattle.stable.specs.ScriptLaws.{scripted_laws}
use Rattle.world_model.proofs.OneNode.ListedPuts.{script_puts}
use Rattle.world_model.proofs.Weaving.Reached.{reached_safe, reached_allowed}
use Rattle.world_model.proofs.lives.reached_worlds_are_safe.Goals as goal

pub returns : goal.returns
returns g c = record {
  safe = reached_safe (scripted_laws g.met.S.Stable.laws) (λ s f h. h) (λ s f. refl) (script_puts g.S.Stable g.met.S.Stable.laws);
  allowed = reached_allowed (scripted_laws g.met.S.Stable.laws) (λ s f h. h) (λ s f. refl) (script_puts g.S.Stable g.met.S.Stable.laws);
}
