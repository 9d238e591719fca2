-- The forms of the command line, as clap is told them, and which words ask for what.
use Rattle.std.specs.Prelude.{◌≡◌, ◌≢◌, ◌⊎◌, true, List, [], Option, Some, None, IsSome, codes}
use Rattle.std.specs.Prelude.{option_and_then, option_map}
use Rattle.std.specs.Borrow.{Bor}
use Rattle.clap.specs.Words.{App, Row, Rule, Text, fault_of, first_of, new_app, new_rule, subcommand_of}
use Rattle.clap.specs.Words.{with_rule, with_subcommand}
use Rattle.args.specs.declared.job.Work.{Work}
use Rattle.args.specs.declared.job.Work.TheVariants.{Replay, Loopback, Check}
use Rattle.args.specs.declared.job.Source.{Source}
use Rattle.args.specs.declared.job.Source.TheVariants.{Input, File}

-- ---- the forms
-- the one word of a work, which has to be there
abbrev pub file : Rule
file = record (new_rule (codes "FILE")) { required = true }

-- a command without a flag that calls for help
abbrev pub without_help : App → App
without_help a = record a { top = record a.top { disable_help_flag = true } }

-- a command that begins with its first word, and is nothing without the name of what it does
abbrev pub with_names_alone : App → App
with_names_alone a = record a {
  top = record a.top {
    no_binary_name = true;
    disable_help_subcommand = true;
    subcommand_required = true;
  };
}

-- a name and FILE
abbrev pub file_form : Text → App
file_form name = with_rule (without_help (new_app name)) file

-- the option of a replay: the folder in which it keeps the records of its nodes
abbrev pub folder : Rule
folder = record (new_rule (codes "DIR")) { long = Some (codes "db") }

abbrev pub name_of : Work → Text
name_of Replay = codes "replay"
name_of Loopback = codes "loopback"
name_of Check = codes "check"

abbrev pub replay_form : App
replay_form = with_rule (file_form (name_of Replay)) folder

-- the program without its works
abbrev pub bare_form : App
bare_form = with_names_alone (without_help (new_app (codes "mfpx")))

-- `replay FILE`, which may have `--db DIR`, `loopback FILE` and `check FILE`, which is all that the program does
abbrev pub forms : App
forms = with_subcommand (with_subcommand (with_subcommand bare_form replay_form.top) (file_form (name_of Loopback)).top)
    (file_form (name_of Check)).top

-- ---- what words give
-- the name of the command that was given
abbrev pub given_name : Option (Text × List Row) → Option Text
given_name = option_map (λ given. given.0)

-- the FILE among the values that a command was given
abbrev pub given_file : Option (Text × List Row) → Option Text
given_file = option_and_then (λ given. first_of (codes "FILE") given.1)

-- the DIR among them
abbrev pub given_folder : Option (Text × List Row) → Option Text
given_folder = option_and_then (λ given. first_of (codes "DIR") given.1)

-- the FILE that the words give
abbrev pub file_of : List Text → Option Text
file_of words = given_file (subcommand_of forms words)

-- the words are one of the forms: this work's name, and a FILE
pub record IsForm (words : List Text) (work : Work) : Type 0 where
  pub accepted : fault_of forms words ≡ []
  pub name : given_name (subcommand_of forms words) ≡ Some (name_of work)
  pub file : IsSome (file_of words)

-- ---- what words ask for
-- the words ask for this work; no words ask for a replay
abbrev pub AskFor : List Text → Work → Type 0
AskFor words Replay = (words ≡ []) ⊎ IsForm words Replay
AskFor words Loopback = IsForm words Loopback
AskFor words Check = IsForm words Check

-- the words name standard input: by a dash, or by saying nothing
abbrev pub NameInput : List Text → Type 0
NameInput words = (words ≡ []) ⊎ (file_of words ≡ Some (codes "-"))

-- the words name this source
abbrev pub NameSource : List Text → Source → Type 0
NameSource words Input = NameInput words
NameSource words (File path) = (¬ NameInput words) × (file_of words ≡ Some path.now)

-- a dash is standard input, and any other text the name of a file
abbrev pub Names : Text → Source → Type 0
Names text Input = text ≡ codes "-"
Names text (File path) = (text ≢ codes "-") × (path.now ≡ text)

-- ---- where a replay keeps its records
-- the folder of a work, of which this one was given: only a replay has one
abbrev pub IsFolderOf : Work → Option Text → Option Text → Type 0
IsFolderOf Replay given folder = folder ≡ given
IsFolderOf Loopback given folder = folder ≡ None
IsFolderOf Check given folder = folder ≡ None

-- the words name this folder for the records, or none
abbrev pub NameFolder : List Text → Work → Option Text → Type 0
NameFolder words work folder = IsFolderOf work (given_folder (subcommand_of forms words)) folder

-- the text of a name, where there is one
abbrev pub text_of : Option (Bor Text) → Option Text
text_of = option_map (λ name. name.now)
