-- What words name, and which words are refused.
use Rattle.std.proofs.Common.{◌≡◌, ◌≢◌, ◌⊎◌, ◌∙◌, ap, ap₂, sym, refl, inl, inr, ℕ, drop, List, [], ◌∷◌, Option, Some, None, codes}
use Rattle.std.proofs.Common.{true, false}
use Rattle.std.proofs.Common.{map, IsSome, IsNone, IfErr, IfSome, MatchResult, unwrap_or, subst, Bor}
use Rattle.std.specs.Option.{ok_or}
use Rattle.clap.specs.Words.{HasKind, Row, Text, fault_of, kind_of, subcommand_of}
use Rattle.clap.specs.declared.error.Error.{Error}
use Rattle.clap.specs.declared.error.kind.ErrorKind.TheVariants.{OutOfMemory}
use Rattle.args.specs.declared.fault.WordsFault.TheVariants.{NoForm, Memory}
use Rattle.args.specs.declared.job.Job.{Job}
use Rattle.args.specs.declared.job.Source.{Source}
use Rattle.args.specs.declared.job.Source.TheVariants.{Input, File}
use Rattle.args.specs.declared.job.Work.{Work}
use Rattle.args.specs.declared.job.Work.TheVariants.{Replay, Loopback, Check}
use Rattle.args.specs.Forms.{AskFor, IsFolderOf, IsForm, NameInput, NameSource, Names, file_of, forms, given_file, given_folder}
use Rattle.args.specs.Forms.{given_name, name_of, text_of}

some_is : (a b : Text) → Some a ≡ Some b → a ≡ b
some_is a b e = ap (λ (t : Option Text). unwrap_or t []) e

-- words that name the input name no other source
pub source_is_input : (words : List Text) (source : Source) → NameSource words source → NameInput words → source ≡ Input
source_is_input words Input names asked = refl
source_is_input words (File path) names asked = absurd (names.0 asked)

pub source_is_file : (words : List Text) (source : Source) → NameSource words source → ¬ NameInput words → source ≢ Input
source_is_file words Input names other e = other names
source_is_file words (File path) names other e = cc

-- the FILE of the words says which source they name
pub file_names : (words : List Text) (source : Source) (text : Text) → words ≢ [] → file_of words ≡ Some text
    → Names text source → NameSource words source
file_names words Input text some is names = inr (is ∙ ap (λ (t : Text). Some t) names)
file_names words (File path) text some is names = (
  λ asked. elim asked [ inl none ↦ some none | inr dash ↦ names.0 (some_is text (codes "-") (sym is ∙ dash)) ],
  is ∙ ap (λ (t : Text). Some t) (sym names.1),
)

-- words that give no FILE, or no name of a work, are none of the forms
abbrev pub GiveNothing : Option (Text × List Row) → Type 0
GiveNothing given = (given_file given ≡ None) ⊎ ((work : Work) → given_name given ≢ Some (name_of work))

no_form : (words : List Text) (given : Option (Text × List Row)) (work : Work) → given ≡ subcommand_of forms words
    → GiveNothing given → IsForm words work → ⊥
no_form words given work same (inl none) form =
    let missing : false ≡ true = subst (λ (o : Option Text). IsSome o) (ap given_file (sym same) ∙ none) form.file in cc
no_form words given work same (inr other) form = other work (ap given_name same ∙ form.name)

pub ask_for_nothing : (words : List Text) (given : Option (Text × List Row)) (work : Work) → words ≢ []
    → given ≡ subcommand_of forms words → GiveNothing given → AskFor words work → ⊥
ask_for_nothing words given Replay some same nothing (inl none) = some none
ask_for_nothing words given Replay some same nothing (inr form) = no_form words given Replay same nothing form
ask_for_nothing words given Loopback some same nothing form = no_form words given Loopback same nothing form
ask_for_nothing words given Check some same nothing form = no_form words given Check same nothing form

-- words that are refused for another cause than memory are none of the forms
accepted_has_no_kind : (words : List Text) (work : Work) (refusal : Error) → HasKind (fault_of forms words) refusal
    → IsForm words work → kind_of refusal ≡ OutOfMemory
accepted_has_no_kind words work refusal kinds form =
    elim (subst (λ k. HasKind k refusal) form.accepted kinds) [ inl memory ↦ memory | inr among ↦ absurd among ]

pub refused_ask_for_nothing : (words : List Text) (work : Work) (refusal : Error) → words ≢ []
    → HasKind (fault_of forms words) refusal → kind_of refusal ≢ OutOfMemory → AskFor words work → ⊥
refused_ask_for_nothing words Replay refusal some kinds other (inl none) = some none
refused_ask_for_nothing words Replay refusal some kinds other (inr form) =
    other (accepted_has_no_kind words Replay refusal kinds form)
refused_ask_for_nothing words Loopback refusal some kinds other form =
    other (accepted_has_no_kind words Loopback refusal kinds form)
refused_ask_for_nothing words Check refusal some kinds other form =
    other (accepted_has_no_kind words Check refusal kinds form)

-- no word is left out
pub map-none : {A B : Type 0} (f : A → B) (xs : List A) → map f xs ≡ [] → xs ≡ []
map-none f [] e = refl
map-none f (x ∷ xs) e = cc

-- what the code makes of words that were accepted and give nothing
pub no_job : (found : Option Job) (words : List Text) (given : Option (Text × List Row)) → words ≢ []
    → given ≡ subcommand_of forms words → (IsNone found → GiveNothing given)
    → IfErr (ok_or found NoForm) (λ fault. fault ≡ NoForm → (work : Work) → ¬ AskFor words work)
no_job (Some job) words given some same none = tt
no_job None words given some same none = λ e work. ask_for_nothing words given work some same (none refl)

-- ---- a name and a dash
-- names of works differ in their lengths
by_rest : List ℕ → Work
by_rest [] = Check
by_rest (a ∷ []) = Replay
by_rest (a ∷ b ∷ rest) = Loopback

named : List ℕ → Work
named name = by_rest (drop 5 name)

found : (work : Work) → named (name_of work) ≡ work
unfolding named by_rest
found Replay = refl
found Loopback = refl
found Check = refl

same_name : (a b : Work) → name_of a ≡ name_of b → a ≡ b
same_name a b e = sym (found a) ∙ ap named e ∙ found b

dash_is_input : (source : Source) (given : Option Text) (text : Text) → given ≡ Some text → given ≡ Some (codes "-")
    → Names text source → source ≡ Input
dash_is_input Input given text is dash names = refl
dash_is_input (File path) given text is dash names = absurd (names.0 (some_is text (codes "-") (sym is ∙ dash)))

dash_gives : (given : Option (Text × List Row)) (work : Work) → given_name given ≡ Some (name_of work)
    → given_file given ≡ Some (codes "-") → GiveNothing given → ⊥
dash_gives given work name dash (inl none) = let both = sym none ∙ dash in cc
dash_gives given work name dash (inr other) = other work name

-- none is named that has no text
no_text : (folder : Option (Bor Text)) → text_of folder ≡ None → folder ≡ None
no_text None e = refl
no_text (Some name) e = cc

-- no folder is found where none was given
no_folder : (work : Work) (given : Option Text) (folder : Option (Bor Text)) → given ≡ None → IsFolderOf work given (text_of folder)
    → folder ≡ None
no_folder Replay given folder none is = no_text folder (is ∙ none)
no_folder Loopback given folder none is = no_text folder is
no_folder Check given folder none is = no_text folder is

-- a job of these parts
abbrev job_with : Work → Source → Option (Bor Text) → Job
job_with work source folder = record { work = work; source = source; folder = folder }

pub dash_job : (found : Option Job) (work : Work) (given : Option (Text × List Row))
    → given_name given ≡ Some (name_of work) → given_file given ≡ Some (codes "-") → given_folder given ≡ None
    → IfSome found (λ job. given_name given ≡ Some (name_of job.work))
    → IfSome found (λ job. (text : Text) × (given_file given ≡ Some text) × Names text job.source)
    → IfSome found (λ job. IsFolderOf job.work (given_folder given) (text_of job.folder))
    → (IsNone found → GiveNothing given)
    → MatchResult (ok_or found NoForm) (λ job. job ≡ record { work = work; source = Input; folder = None }) (λ fault. fault ≡ Memory)
dash_job (Some job) work given name dash bare works names folders none =
    ap₂ (λ (w : Work) (s : Source). job_with w s job.folder)
    (same_name job.work work (some_is _ _ (sym works ∙ name)))
    (dash_is_input job.source (given_file given) names.0 names.1 dash names.2)
    ∙ ap (job_with work Input) (no_folder job.work (given_folder given) job.folder bare folders)
dash_job None work given name dash bare works names folders none = absurd (dash_gives given work name dash (none refl))
