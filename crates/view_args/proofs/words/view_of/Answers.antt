-- clap accepts words of the forms alone, and refuses them by their faults.
use Rattle.std.proofs.Common.{◌≡◌, ◌∙◌, ap, refl, subst, sym, true, map, string_bytes, List, [], Option}
use Rattle.std.specs.Prelude.{IfSome}
use Rattle.std.proofs.lemmas.Result.{err_from_is_err_and}
use Rattle.clap.specs.Words.{App, HasKind, Row, Text, app_of, fault_of, is_simple, is_simple_and_free, subcommand_of, subcommand_rows_of}
use Rattle.view_args.specs.Forms.{Says, forms}
use Rattle.view_args.specs.declared.view.View.{View}
use Rattle.view_args.proofs.words.view_of.Goals as goal

forms_are_free : is_simple_and_free forms ≡ true
forms_are_free = refl

forms_are_simple : is_simple forms ≡ true
forms_are_simple = refl

pub returns-in_err-matches-clause-kinds : goal.returns-in_err-matches-clause-kinds
returns-in_err-matches-clause-kinds c =
    let faults = c.in_err-matches.ensures.kinds (ap is_simple_and_free c.in_ok-command.ensures ∙ forms_are_free) in
    let p = err_from_is_err_and c.from_residual-in_err-matches.result c.from_residual-in_err-matches.ensures.1 in
    rw (p.1, p.2)
    (subst (λ (a : App). HasKind (fault_of a (map string_bytes c.args.words.now)) c.in_err-matches.field-0.0) c.in_ok-command.ensures faults)

pub returns-in-Some-clause-says : goal.returns-in-Some-clause-says
returns-in-Some-clause-says c =
    let parsed = c.in_ok-matches.ensures.matches (ap is_simple c.in_ok-command.ensures ∙ forms_are_simple) in
    let given : subcommand_rows_of c.in_ok-matches.matches ≡ subcommand_of forms (map string_bytes c.args.words.now) =
    parsed.1 ∙ ap (λ (a : App). subcommand_of a (map string_bytes c.args.words.now)) c.in_ok-command.ensures in
    let said : Says (subcommand_rows_of c.in_ok-matches.matches) c.in-Some.view =
    subst (λ (o : Option View). IfSome o (Says (subcommand_rows_of c.in_ok-matches.matches))) c.in-Some.is c.in_ok-view.ensures in
    subst (λ (g : Option (Text × List Row)). Says g c.in-Some.view) given said

pub returns-in-Some-clause-kinds : goal.returns-in-Some-clause-kinds
returns-in-Some-clause-kinds c =
    let none : fault_of (app_of c.in_ok-command.command) (map string_bytes c.args.words.now) ≡ [] =
    c.in_ok-matches.ensures.kinds (ap is_simple_and_free c.in_ok-command.ensures ∙ forms_are_free) in
    ap (λ (a : App). fault_of a (map string_bytes c.args.words.now)) (sym c.in_ok-command.ensures) ∙ none
