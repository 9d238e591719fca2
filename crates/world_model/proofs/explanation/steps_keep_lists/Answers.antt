use Rattle.std.proofs.Common.{refl}
use Rattle.stable.specs.ScriptLaws.{scripted_laws}
use Rattle.world_model.proofs.OneNode.ListedPuts.{script_puts}
use Rattle.world_model.proofs.Refinement.SafetyLemmas.{allowed_agrees, learnt_agree}
use Rattle.world_model.proofs.OneLog.Tellings.{steps_keep_lists}
use Rattle.world_model.proofs.explanation.steps_keep_lists.Goals as goal

pub returns : goal.returns
returns g c = λ old new event steps honest allowed told.
    steps_keep_lists (scripted_laws g.met.S.Stable.laws) (script_puts g.S.Stable g.met.S.Stable.laws) (λ s f. refl) old new event steps honest
    allowed (learnt_agree old (allowed_agrees old allowed)) told
