-- The transcripts and the flag are one more argument each of the form with a FILE.
use Rattle.std.proofs.Common.{◌∙◌, ap₂}
use Rattle.std.proofs.lemmas.Result.{IfOk-weaker}
use Rattle.clap.specs.Words.{with_rule}
use Rattle.view_args.proofs.Given.{neither}
use Rattle.view_args.proofs.commands.audit_command.Goals as goal

pub returns-clause-app : goal.returns-clause-app
returns-clause-app c =
    let one = c.in_ok-arg.ensures.shape c.transcripts_arg.ensures.local
    ∙ ap₂ with_rule c.in_ok-command.ensures.app c.transcripts_arg.ensures.rule in
    IfOk-weaker c.arg-2.result _ _
    (λ r h. h.shape c.progress_arg.ensures.local ∙ ap₂ with_rule one c.progress_arg.ensures.rule) c.arg-2.ensures

pub returns-clause-local : goal.returns-clause-local
returns-clause-local c =
    let one = c.in_ok-arg.ensures.globals ∙ neither _ _ c.in_ok-command.ensures.local c.transcripts_arg.ensures.local in
    IfOk-weaker c.arg-2.result _ _ (λ r h. h.globals ∙ neither _ _ one c.progress_arg.ensures.local) c.arg-2.ensures
