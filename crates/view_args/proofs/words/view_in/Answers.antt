use Rattle.std.proofs.Common.{rules, ◌∙◌, ap, sym, codes, Some}
use Rattle.clap.specs.Words.{Text, found_of, subcommand_rows_of}
use Rattle.view_args.proofs.Given.{flag_is_given, given_name_is, value_is_given}
use Rattle.view_args.proofs.words.view_in.Goals as goal

pub returns-in-why : goal.returns-in-why
returns-in-why c = (
  given_name_is c.args.matches.now ∙ sym c.in_ok-name.ensures.name ∙ ap (λ (t : Text). Some t) (search rules),
  value_is_given (codes "FILE") (subcommand_rows_of c.args.matches.now) (found_of c.in_ok-name.inner.now)
      (Some c.in_ok-file.file.now) c.in_ok-name.ensures.rows (search rules),
)

pub returns-in-run : goal.returns-in-run
returns-in-run c =
    let given = subcommand_rows_of c.args.matches.now in
    let found = found_of c.in_ok-name.inner.now in (
      given_name_is c.args.matches.now ∙ sym c.in_ok-name.ensures.name ∙ ap (λ (t : Text). Some t) (search rules),
      value_is_given (codes "FILE") given found (Some c.in_ok-file.file.now) c.in_ok-name.ensures.rows (search rules),
      flag_is_given (codes "frames") given found c.has_flag-frames.result c.in_ok-name.ensures.rows c.has_flag-frames.ensures,
      flag_is_given (codes "json") given found c.has_flag-json.result c.in_ok-name.ensures.rows c.has_flag-json.ensures,
      flag_is_given (codes "progress") given found c.has_flag-progress.result c.in_ok-name.ensures.rows c.has_flag-progress.ensures,
    )

pub returns-in_ok-output-in-draw : goal.returns-in_ok-output-in-draw
returns-in_ok-output-in-draw c =
    let given = subcommand_rows_of c.args.matches.now in
    let found = found_of c.in_ok-name.inner.now in (
      given_name_is c.args.matches.now ∙ sym c.in_ok-name.ensures.name ∙ ap (λ (t : Text). Some t) (search rules),
      value_is_given (codes "FILE") given found (Some c.in_ok-file.file.now) c.in_ok-name.ensures.rows (search rules),
      value_is_given (codes "OUT") given found (Some c.in_ok-output-in-draw.output.now) c.in_ok-name.ensures.rows (search rules),
      value_is_given (codes "from") given found _ c.in_ok-name.ensures.rows c.get_str-from.ensures,
      value_is_given (codes "to") given found _ c.in_ok-name.ensures.rows c.get_str-to.ensures,
      flag_is_given (codes "progress") given found c.has_flag-progress.result c.in_ok-name.ensures.rows c.has_flag-progress.ensures,
    )

pub returns-in_ok-output-in-map : goal.returns-in_ok-output-in-map
returns-in_ok-output-in-map c =
    let given = subcommand_rows_of c.args.matches.now in
    let found = found_of c.in_ok-name.inner.now in (
      given_name_is c.args.matches.now ∙ sym c.in_ok-name.ensures.name ∙ ap (λ (t : Text). Some t) (search rules),
      value_is_given (codes "FILE") given found (Some c.in_ok-file.file.now) c.in_ok-name.ensures.rows (search rules),
      value_is_given (codes "OUT") given found (Some c.in_ok-output-in-map.output.now) c.in_ok-name.ensures.rows (search rules),
      value_is_given (codes "at") given found _ c.in_ok-name.ensures.rows c.get_str-at.ensures,
      value_is_given (codes "node") given found _ c.in_ok-name.ensures.rows c.get_str-node.ensures,
      flag_is_given (codes "progress") given found c.has_flag-progress.result c.in_ok-name.ensures.rows c.has_flag-progress.ensures,
    )
