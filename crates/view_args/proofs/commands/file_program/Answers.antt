-- Each command has its place in `file_forms`.
use Rattle.std.proofs.Common.{◌∙◌, ap, ap₂}
use Rattle.std.proofs.lemmas.Result.{IfOk-weaker}
use Rattle.clap.specs.Words.{with_subcommand}
use Rattle.view_args.proofs.Given.{top}
use Rattle.view_args.proofs.commands.file_program.Goals as goal

pub returns : goal.returns
returns c =
    let one = c.in_ok-subcommand.ensures.shape c.in_ok-why.ensures.local
    ∙ ap₂ with_subcommand c.bare_program.ensures (ap top c.in_ok-why.ensures.app) in
    IfOk-weaker c.subcommand-2.result _ _
    (λ r h. h.shape c.in_ok-run_command.ensures.local ∙ ap₂ with_subcommand one (ap top c.in_ok-run_command.ensures.app))
    c.subcommand-2.ensures
