use Rattle.conformance.proofs.FixLemmas.{else_usage, at_usage}
use Rattle.conformance.proofs.timing.scene.Scene.new.Goals as goal

pub returns-in_err-new-clause-usage : goal.returns-in_err-new-clause-usage
returns-in_err-new-clause-usage c =
    at_usage _ _
    (else_usage c.args.points c.in_ok-fixes.field-0.items c.in_ok-fixes.ensures
    (λ v. let e = c.in_err-new.ensures.valid.1 v in absurd (cc)))
