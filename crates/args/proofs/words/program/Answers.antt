-- Each work has its place in `forms`.
use Rattle.std.proofs.Common.{◌≡◌, ◌∙◌, ap, ap₂}
use Rattle.std.proofs.lemmas.Result.{IfOk-weaker}
use Rattle.clap.specs.Words.{App, app_of, with_subcommand}
use Rattle.args.specs.declared.job.Work.TheVariants.{Loopback, Check}
use Rattle.args.specs.Forms.{bare_form, file_form, name_of, replay_form}
use Rattle.args.proofs.words.program.Goals as goal

pub returns : goal.returns
returns c =
    let first_is : app_of c.in_ok-command.command ≡ with_subcommand bare_form replay_form.top =
    c.in_ok-command.ensures.shape c.in_ok-replay.ensures.local
    ∙ ap₂ with_subcommand c.bare_program.ensures (ap (λ (a : App). a.top) c.in_ok-replay.ensures.app) in
    let second_is : app_of c.in_ok-command-2.command ≡ with_subcommand (with_subcommand bare_form replay_form.top)
    (file_form (name_of Loopback)).top =
    c.in_ok-command-2.ensures ∙ ap (λ (a : App). with_subcommand a (file_form (name_of Loopback)).top) first_is in
    IfOk-weaker c.with_file_command-2.result _ _
    (λ r h. h ∙ ap (λ (a : App). with_subcommand a (file_form (name_of Check)).top) second_is) c.with_file_command-2.ensures
