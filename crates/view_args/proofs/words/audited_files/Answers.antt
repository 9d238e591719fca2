use Rattle.std.proofs.Common.{rules, ◌∙◌, ap, sym, map, codes, Some}
use Rattle.clap.specs.Words.{Text, found_of, subcommand_rows_of}
use Rattle.view_args.proofs.Given.{flag_is_given, given_name_is, value_is_given, values_are_given}
use Rattle.view_args.proofs.words.audited_files.Goals as goal

pub returns-in_ok-named-in-audit : goal.returns-in_ok-named-in-audit
returns-in_ok-named-in-audit c =
    let given = subcommand_rows_of c.args.matches.now in
    let found = found_of c.in_ok-name.inner.now in (
      given_name_is c.args.matches.now ∙ sym c.in_ok-name.ensures.name ∙ ap (λ (t : Text). Some t) (search rules),
      value_is_given (codes "FILE") given found (Some c.in_ok-schedule.schedule.now) c.in_ok-name.ensures.rows (search rules),
      values_are_given (codes "TRANSCRIPT") given found (Some (map (λ text. text.now) c.in_ok-named-in-audit.named.now))
          c.in_ok-name.ensures.rows (search rules),
      flag_is_given (codes "progress") given found c.has_flag-progress.result c.in_ok-name.ensures.rows c.has_flag-progress.ensures,
    )
