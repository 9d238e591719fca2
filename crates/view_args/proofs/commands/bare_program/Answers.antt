-- Each setting has its place in the form.
use Rattle.std.proofs.Common.{◌∙◌, ap, true}
use Rattle.clap.specs.Simple.{app_of_fields}
use Rattle.clap.specs.Words.{App}
use Rattle.view_args.proofs.commands.bare_program.Goals as goal

abbrev versioned : App → App
versioned a = record a { top = record a.top { has_version = true } }

abbrev without_name : App → App
without_name a = record a { top = record a.top { no_binary_name = true } }

abbrev with_command : App → App
with_command a = record a { top = record a.top { subcommand_required = true } }

pub returns : goal.returns
returns c =
    ap app_of_fields c.subcommand_required.ensures ∙ ap with_command
    (ap app_of_fields c.no_binary_name.ensures ∙ ap without_name
    (ap app_of_fields c.version.ensures ∙ ap versioned
    (ap app_of_fields c.about.ensures ∙ c.new.ensures.app)))
