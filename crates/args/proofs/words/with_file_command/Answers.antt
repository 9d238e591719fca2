-- It comes after those that are there.
use Rattle.std.proofs.Common.{◌∙◌, ap}
use Rattle.std.proofs.lemmas.Result.{IfOk-weaker}
use Rattle.clap.specs.Words.{App, app_of, with_subcommand}
use Rattle.args.proofs.words.with_file_command.Goals as goal

pub returns : goal.returns
returns c =
    IfOk-weaker c.subcommand.result _ _
    (λ r h. h.shape c.in_ok-work.ensures.local
    ∙ ap (λ (a : App). with_subcommand (app_of c.args.command) a.top) c.in_ok-work.ensures.app) c.subcommand.ensures
