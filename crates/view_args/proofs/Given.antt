-- The name of a command and its values stand in what its matches hold; what a command's form is in a program.
use Rattle.std.proofs.Common.{◌≡◌, ◌∙◌, ◌||◌, ap, sym, subst, refl, Bool, true, false, List, Option, Some, None, option_map}
use Rattle.std.specs.Prelude.{option_and_then}
use Rattle.std.specs.Box.{box_value}
use Rattle.clap.proofs.WalkLemmas.{first_value-rows, raw_values-rows}
use Rattle.clap.specs.Simple.{Shape, subcommand_rows}
use Rattle.clap.specs.Words.{App, Row, Text, all_of, first_of, first_value, matched_of, raw_values, rows_of, subcommand_name_of, subcommand_rows_of}
use Rattle.clap.specs.declared.parser.matches.ArgMatches.{ArgMatches}
use Rattle.clap.specs.declared.parser.matches.ArgMatches.TheViews.{out-ArgMatches, out-SubCommand}
use Rattle.clap.specs.declared.parser.matches.Found.{Found}
use Rattle.view_args.specs.Forms.{IsFlag, given_name, given_value, given_values}

-- only the values of a command count
given_by_rows : (id : Text) (given : Option (Text × List Row))
    → given_value id given ≡ option_and_then (first_of id) (option_map (λ p. p.1) given)
given_by_rows id None = refl
given_by_rows id (Some p) = refl

-- what a look-up finds is what was given
pub value_is_given : (id : Text) (given : Option (Text × List Row)) (found : Found) (text : Option Text)
    → Some (rows_of found) ≡ option_map (λ p. p.1) given → text ≡ first_value found id → given_value id given ≡ text
value_is_given id given found text rows read =
    given_by_rows id given ∙ ap (option_and_then (first_of id)) (sym rows) ∙ sym (read ∙ first_value-rows found id)

-- so is a flag
pub flag_is_given : (id : Text) (given : Option (Text × List Row)) (found : Found) (set : Bool)
    → Some (rows_of found) ≡ option_map (λ p. p.1) given → IsFlag (first_value found id) set → IsFlag (given_value id given) set
flag_is_given id given found set rows flag =
    subst (λ (o : Option Text). IsFlag o set) (sym (value_is_given id given found (first_value found id) rows refl)) flag

all_by_rows : (id : Text) (given : Option (Text × List Row))
    → given_values id given ≡ option_and_then (all_of id) (option_map (λ p. p.1) given)
all_by_rows id None = refl
all_by_rows id (Some p) = refl

-- so are all values
pub values_are_given : (id : Text) (given : Option (Text × List Row)) (found : Found) (texts : Option (List Text))
    → Some (rows_of found) ≡ option_map (λ p. p.1) given → texts ≡ option_map raw_values (matched_of found id)
    → given_values id given ≡ texts
values_are_given id given found texts rows read =
    all_by_rows id given ∙ ap (option_and_then (all_of id)) (sym rows) ∙ sym (read ∙ raw_values-rows found id)

-- so is the name
pub given_name_is : (m : ArgMatches) → given_name (subcommand_rows_of m) ≡ subcommand_name_of m
given_name_is m = elim (out-ArgMatches m).subcommand as (λ o. given_name (subcommand_rows o) ≡ option_map
    (λ b. (out-SubCommand (box_value b)).name.now) o) [ None ↦ refl | Some b ↦ refl ]

-- an argument that isn't global adds none
pub neither : (a b : Bool) → a ≡ false → b ≡ false → (a || b) ≡ false
neither true b e f = e
neither false b e f = f

-- the form of a command, as one of a program
abbrev pub top : App → Shape
top a = a.top
