-- A name, and its one word.
use Rattle.std.proofs.Common.{rules, ◌≡◌, ◌∙◌, ap, ap₂, false}
use Rattle.std.proofs.lemmas.Result.{IfOk-weaker}
use Rattle.clap.specs.Simple.{app_of_fields}
use Rattle.clap.specs.Words.{app_of, new_app, rule_of, with_rule}
use Rattle.view_args.specs.Forms.{file}
use Rattle.view_args.proofs.Given.{neither}
use Rattle.view_args.proofs.commands.file_command.Goals as goal

pub returns-clause-app : goal.returns-clause-app
returns-clause-app c =
    let one_file : rule_of c.help.result ≡ file = search rules in
    let bare : app_of c.about.result ≡ new_app c.args.name.now = ap app_of_fields c.about.ensures ∙ c.new.ensures.app in
    IfOk-weaker c.arg.result _ _ (λ r h. h.shape (search rules) ∙ ap₂ with_rule bare one_file) c.arg.ensures

pub returns-clause-local : goal.returns-clause-local
returns-clause-local c =
    let local : c.help.result.global ≡ false = search rules in
    IfOk-weaker c.arg.result _ _
    (λ r h. h.globals ∙ neither _ _ (rw (c.about.ensures) c.new.ensures.local) local) c.arg.ensures
