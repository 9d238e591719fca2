-- The name and the FILE that a command was given stand in what its matches hold.
use Rattle.std.proofs.Common.{◌≡◌, ◌∙◌, ◌||◌, ap, sym, refl, codes, Bool, true, false, List, Option, Some, None, option_map}
use Rattle.std.specs.Prelude.{option_and_then}
use Rattle.std.specs.Box.{box_value}
use Rattle.clap.proofs.WalkLemmas.{first_value-rows}
use Rattle.clap.specs.Simple.{subcommand_rows}
use Rattle.clap.specs.Words.{Row, Text, first_of, first_value, rows_of, subcommand_name_of, subcommand_rows_of}
use Rattle.clap.specs.declared.parser.matches.ArgMatches.{ArgMatches}
use Rattle.clap.specs.declared.parser.matches.ArgMatches.TheViews.{out-ArgMatches, out-SubCommand}
use Rattle.clap.specs.declared.parser.matches.Found.{Found}
use Rattle.args.specs.declared.job.Work.{Work}
use Rattle.args.specs.declared.job.Work.TheVariants.{Replay, Loopback, Check}
use Rattle.args.specs.Forms.{IsFolderOf, given_file, given_folder, given_name}

-- only the values of a command count
given_by_rows : (id : Text) (given : Option (Text × List Row))
    → option_and_then (λ g. first_of id g.1) given ≡ option_and_then (first_of id) (option_map (λ p. p.1) given)
given_by_rows id None = refl
given_by_rows id (Some p) = refl

-- what a look-up finds is what was given
value_is_found : (id : Text) (given : Option (Text × List Row)) (found : Found) (text : Option Text)
    → Some (rows_of found) ≡ option_map (λ p. p.1) given → text ≡ first_value found id
    → option_and_then (λ g. first_of id g.1) given ≡ text
value_is_found id given found text rows read = given_by_rows id given
    ∙ ap (option_and_then (first_of id)) (sym rows)
    ∙ sym (read ∙ first_value-rows found id)

pub given_is_found : (given : Option (Text × List Row)) (found : Found) (text : Option Text)
    → Some (rows_of found) ≡ option_map (λ p. p.1) given → text ≡ first_value found (codes "FILE")
    → given_file given ≡ text
given_is_found = value_is_found (codes "FILE")

-- so is the folder
pub folder_is_found : (given : Option (Text × List Row)) (found : Found) (work : Work) (folder : Option Text)
    → Some (rows_of found) ≡ option_map (λ p. p.1) given → IsFolderOf work (first_value found (codes "DIR")) folder
    → IsFolderOf work (given_folder given) folder
folder_is_found given found Replay folder rows is = sym (value_is_found (codes "DIR") given found folder rows is)
folder_is_found given found Loopback folder rows is = is
folder_is_found given found Check folder rows is = is

-- so is the name
pub given_name_is : (m : ArgMatches) → given_name (subcommand_rows_of m) ≡ subcommand_name_of m
given_name_is m = elim (out-ArgMatches m).subcommand as (λ o. given_name (subcommand_rows o) ≡ option_map
    (λ b. (out-SubCommand (box_value b)).name.now) o) [ None ↦ refl | Some b ↦ refl ]

-- an argument that isn't global adds none
pub neither : (a b : Bool) → a ≡ false → b ≡ false → (a || b) ≡ false
neither true b e f = e
neither false b e f = f
