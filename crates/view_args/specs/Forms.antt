-- The forms of the command line, as clap is told them, and which words ask for what.
use Rattle.std.specs.Prelude.{◌≡◌, ◌↔◌, Bool, true, IsTrue, List, Option, Some, codes, map, option_and_then, option_map}
use Rattle.std.specs.Borrow.{Bor}
use Rattle.clap.specs.Words.{App, Row, Rule, Text, all_of, first_of, new_app, new_rule, with_rule, with_subcommand}
use Rattle.clap.specs.declared.builder.action.ArgAction.TheVariants.{Append, SetTrue}
use Rattle.view_args.specs.declared.view.View.{View}
use Rattle.view_args.specs.declared.view.View.TheVariants.{Why, Run, Draw, Map, Audit}

-- ---- the forms
-- the one word of a command, which has to be there
abbrev pub file : Rule
file = record (new_rule (codes "FILE")) { required = true }

-- the file to which a picture is written, after `-o`
abbrev pub output : Rule
output = record (new_rule (codes "OUT")) { short = Some 111; required = true }

-- an option of this name, with a value
abbrev pub option : Text → Rule
option name = record (new_rule name) { long = Some name }

-- an option of this name, without
abbrev pub flag : Text → Rule
flag name = record (new_rule name) { long = Some name; action = Some SetTrue }

-- the flag that asks for how far a view is
abbrev pub progress : Rule
progress = flag (codes "progress")

-- the files that are audited, one or more
abbrev pub transcripts : Rule
transcripts = record (new_rule (codes "TRANSCRIPT")) { action = Some Append; required = true }

-- a name and FILE
abbrev pub file_form : Text → App
file_form name = with_rule (new_app name) file

abbrev pub run_form : App
run_form = with_rule (with_rule (with_rule (file_form (codes "run")) (flag (codes "frames"))) (flag (codes "json"))) progress

abbrev pub draw_form : App
draw_form = with_rule (with_rule (with_rule (with_rule (file_form (codes "draw")) output) (option (codes "from")))
    (option (codes "to"))) progress

abbrev pub map_form : App
map_form = with_rule (with_rule (with_rule (with_rule (file_form (codes "map")) output) (option (codes "at")))
    (option (codes "node"))) progress

abbrev pub audit_form : App
audit_form = with_rule (with_rule (file_form (codes "audit")) transcripts) progress

-- the program without its commands: it begins with its first word, is nothing without the name of a command, and has a version
abbrev pub bare_form : App
bare_form = let a = new_app (codes "mfpxview") in record a {
  top = record a.top {
    has_version = true;
    no_binary_name = true;
    subcommand_required = true;
  };
}

-- with the commands that read one file and write none
abbrev pub file_forms : App
file_forms = with_subcommand (with_subcommand bare_form (file_form (codes "why")).top) run_form.top

abbrev pub forms : App
forms = with_subcommand (with_subcommand (with_subcommand file_forms draw_form.top) map_form.top) audit_form.top

-- ---- what words ask for
-- the name of the command that was given
abbrev pub given_name : Option (Text × List Row) → Option Text
given_name = option_map (λ given. given.0)

-- the first value under this name that the command was given
abbrev pub given_value : Text → Option (Text × List Row) → Option Text
given_value id = option_and_then (λ given. first_of id given.1)

-- all values under this name that the command was given
abbrev pub given_values : Text → Option (Text × List Row) → Option (List Text)
given_values id = option_and_then (λ given. all_of id given.1)

-- a flag is set where it was given
abbrev pub IsFlag : Option Text → Bool → Type 0
IsFlag given set = IsTrue set ↔ (given ≡ Some (codes "true"))

-- the text of a value, where there is one
abbrev pub text_of : Option (Bor Text) → Option Text
text_of = option_map (λ text. text.now)

-- what was given asks for how far a view is, or doesn't
abbrev pub IsProgress : Option (Text × List Row) → Bool → Type 0
IsProgress given told = IsFlag (given_value (codes "progress") given) told

-- what was given asks for an audit of these files
abbrev pub AsksForAudit : Option (Text × List Row) → Text → List Text → Bool → Type 0
AsksForAudit given schedule transcripts told = (given_name given ≡ Some (codes "audit"))
    × (given_value (codes "FILE") given ≡ Some schedule) × (given_values (codes "TRANSCRIPT") given ≡ Some transcripts)
    × IsProgress given told

-- what was given asks for this
abbrev pub Says : Option (Text × List Row) → View → Type 0
Says given (Why file) = (given_name given ≡ Some (codes "why")) × (given_value (codes "FILE") given ≡ Some file.now)
Says given (Run file frames json told) = (given_name given ≡ Some (codes "run")) × (given_value (codes "FILE") given ≡ Some file.now)
    × IsFlag (given_value (codes "frames") given) frames × IsFlag (given_value (codes "json") given) json
    × IsProgress given told
Says given (Draw file out from to told) = (given_name given ≡ Some (codes "draw")) × (given_value (codes "FILE") given ≡ Some file.now)
    × (given_value (codes "OUT") given ≡ Some out.now) × (given_value (codes "from") given ≡ text_of from)
    × (given_value (codes "to") given ≡ text_of to) × IsProgress given told
Says given (Map file out at node told) = (given_name given ≡ Some (codes "map")) × (given_value (codes "FILE") given ≡ Some file.now)
    × (given_value (codes "OUT") given ≡ Some out.now) × (given_value (codes "at") given ≡ text_of at)
    × (given_value (codes "node") given ≡ text_of node) × IsProgress given told
Says given (Audit schedule transcripts told) = AsksForAudit given schedule.now (map (λ text. text.now) transcripts.items) told
