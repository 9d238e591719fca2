-- Each flag is one more argument of the form with a FILE.
use Rattle.std.proofs.Common.{◌∙◌, ap₂}
use Rattle.std.proofs.lemmas.Result.{IfOk-weaker}
use Rattle.clap.specs.Words.{with_rule}
use Rattle.view_args.proofs.Given.{neither}
use Rattle.view_args.proofs.commands.run_command.Goals as goal

pub returns-clause-app : goal.returns-clause-app
returns-clause-app c =
    let one = c.in_ok-arg.ensures.shape c.flag_arg.ensures.local
    ∙ ap₂ with_rule c.in_ok-command.ensures.app c.flag_arg.ensures.rule in
    let two = c.in_ok-arg-2.ensures.shape c.flag_arg-2.ensures.local ∙ ap₂ with_rule one c.flag_arg-2.ensures.rule in
    IfOk-weaker c.arg-3.result _ _
    (λ r h. h.shape c.progress_arg.ensures.local ∙ ap₂ with_rule two c.progress_arg.ensures.rule) c.arg-3.ensures

pub returns-clause-local : goal.returns-clause-local
returns-clause-local c =
    let one = c.in_ok-arg.ensures.globals ∙ neither _ _ c.in_ok-command.ensures.local c.flag_arg.ensures.local in
    let two = c.in_ok-arg-2.ensures.globals ∙ neither _ _ one c.flag_arg-2.ensures.local in
    IfOk-weaker c.arg-3.result _ _ (λ r h. h.globals ∙ neither _ _ two c.progress_arg.ensures.local) c.arg-3.ensures
