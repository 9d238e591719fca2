-- Each command has its place in `forms`.
use Rattle.std.proofs.Common.{◌∙◌, ap, ap₂}
use Rattle.std.proofs.lemmas.Result.{IfOk-weaker}
use Rattle.clap.specs.Words.{with_subcommand}
use Rattle.view_args.proofs.Given.{top}
use Rattle.view_args.proofs.commands.program.Goals as goal

pub returns : goal.returns
returns c =
    let three = c.in_ok-subcommand.ensures.shape c.in_ok-draw_command.ensures.local
    ∙ ap₂ with_subcommand c.in_ok-file_program.ensures (ap top c.in_ok-draw_command.ensures.app) in
    let four = c.in_ok-subcommand-2.ensures.shape c.in_ok-map_command.ensures.local
    ∙ ap₂ with_subcommand three (ap top c.in_ok-map_command.ensures.app) in
    IfOk-weaker c.subcommand-3.result _ _
    (λ r h. h.shape c.in_ok-audit_command.ensures.local ∙ ap₂ with_subcommand four (ap top c.in_ok-audit_command.ensures.app))
    c.subcommand-3.ensures
