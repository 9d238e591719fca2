-- A folder is one more argument of the form with a FILE.
use Rattle.std.proofs.Common.{rules, ◌≡◌, ◌∙◌, ap₂, false}
use Rattle.std.proofs.lemmas.Result.{IfOk-weaker}
use Rattle.clap.specs.Words.{rule_of, with_rule}
use Rattle.args.specs.Forms.{folder}
use Rattle.args.proofs.Given.{neither}
use Rattle.args.proofs.words.replay_command.Goals as goal

pub returns-clause-app : goal.returns-clause-app
returns-clause-app c =
    let one_folder : rule_of c.long.result ≡ folder = search rules in
    IfOk-weaker c.arg.result _ _
    (λ r h. h.shape (search rules) ∙ ap₂ with_rule c.in_ok-file_command.ensures.app one_folder) c.arg.ensures

pub returns-clause-local : goal.returns-clause-local
returns-clause-local c =
    let local : c.long.result.global ≡ false = search rules in
    IfOk-weaker c.arg.result _ _ (λ r h. h.globals ∙ neither _ _ c.in_ok-file_command.ensures.local local) c.arg.ensures
