use Rattle.std.proofs.Common.{rules, ◌≡◌, codes, inl, Some, None}
use Rattle.clap.specs.Words.{first_value, found_of, subcommand_rows_of}
use Rattle.args.proofs.Given.{folder_is_found, given_is_found}
use Rattle.args.proofs.words.job_in.Goals as goal

-- the command was given no FILE
pub returns-in_err-file-clause-none : goal.returns-in_err-file-clause-none
returns-in_err-file-clause-none c = λ _.
    let read : None ≡ first_value (found_of c.in_ok-name.inner.now) (codes "FILE") = search rules in
    inl (given_is_found (subcommand_rows_of c.args.matches.now) (found_of c.in_ok-name.inner.now) None
    c.in_ok-name.ensures.rows read)

-- the FILE that was found is the one that was given
pub returns-clause-source : goal.returns-clause-source
returns-clause-source c =
    let read : Some c.in_ok-file.file.now ≡ first_value (found_of c.in_ok-name.inner.now) (codes "FILE") = search rules in (
      c.in_ok-file.file.now,
      given_is_found (subcommand_rows_of c.args.matches.now) (found_of c.in_ok-name.inner.now)
          (Some c.in_ok-file.file.now) c.in_ok-name.ensures.rows read,
      c.source_named.ensures,
    )

-- so is the folder
pub returns-clause-folder : goal.returns-clause-folder
returns-clause-folder c =
    folder_is_found (subcommand_rows_of c.args.matches.now) (found_of c.in_ok-name.inner.now) _ _ c.in_ok-name.ensures.rows
    c.folder_in.ensures
