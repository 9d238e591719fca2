-- Each setting has its place in the form.
use Rattle.std.proofs.Common.{◌≡◌, ◌∙◌, ap, codes, true}
use Rattle.clap.specs.Simple.{app_of_fields}
use Rattle.clap.specs.Words.{App}
use Rattle.args.specs.Forms.{without_help}
use Rattle.args.proofs.words.bare_program.Goals as goal

abbrev without_name : App → App
without_name a = record a { top = record a.top { no_binary_name = true } }

abbrev without_help_command : App → App
without_help_command a = record a { top = record a.top { disable_help_subcommand = true } }

abbrev with_command : App → App
with_command a = record a { top = record a.top { subcommand_required = true } }

pub returns : goal.returns
returns c =
    ap app_of_fields c.subcommand_required.ensures ∙ ap with_command
    (ap app_of_fields c.disable_help_subcommand.ensures ∙ ap without_help_command
    (ap app_of_fields c.disable_help_flag.ensures ∙ ap without_help
    (ap app_of_fields c.no_binary_name.ensures ∙ ap without_name c.new.ensures.app)))
