-- clap's parse succeeds only on words of the forms, and on these only want of memory refuses it.
use Rattle.std.proofs.Common.{rules, ◌≡◌, ◌≢◌, ◌∙◌, ap, ap₂, refl, sym, subst, codes, true, map, string_bytes, List, [], ◌∷◌, None, Some}
use Rattle.std.proofs.Common.{arith}
use Rattle.std.proofs.lemmas.Grind.{common_steps, elements}
use Rattle.clap.specs.Words.{HasKind, Text, is_simple, kind_of, subcommand_of, subcommand_rows_of, takes}
use Rattle.clap.specs.Faults.{fault_of, is_simple_and_free}
use Rattle.clap.proofs.OnLiterals.{clap_on_literals}
use Rattle.clap.specs.declared.error.kind.ErrorKind.TheVariants.{OutOfMemory}
use Rattle.args.proofs.Naming.{dash_job, map-none, no_job, refused_ask_for_nothing}
use Rattle.args.specs.declared.fault.WordsFault.TheVariants.{Memory, NoForm}
use Rattle.args.specs.declared.job.Work.{Work}
use Rattle.args.specs.declared.job.Work.TheVariants.{Replay, Loopback, Check}
use Rattle.args.specs.Forms.{forms, given_file, given_folder, given_name, name_of}
use Rattle.args.proofs.words.job_of.Goals as goal

abbrev dash : Work → List Text
dash work = name_of work ∷ codes "-" ∷ []

is_taken : (work : Work) → takes forms (dash work) ≡ true
unfolding clap_on_literals
is_taken Replay = refl
is_taken Loopback = refl
is_taken Check = refl

gives_its_name : (work : Work) → given_name (subcommand_of forms (dash work)) ≡ Some (name_of work)
unfolding clap_on_literals
gives_its_name Replay = refl
gives_its_name Loopback = refl
gives_its_name Check = refl

gives_a_dash : (work : Work) → given_file (subcommand_of forms (dash work)) ≡ Some (codes "-")
unfolding clap_on_literals
gives_a_dash Replay = refl
gives_a_dash Loopback = refl
gives_a_dash Check = refl

gives_no_folder : (work : Work) → given_folder (subcommand_of forms (dash work)) ≡ None
unfolding clap_on_literals
gives_no_folder Replay = refl
gives_no_folder Loopback = refl
gives_no_folder Check = refl

no_words_give_none : None ≡ given_folder (subcommand_of forms [])
unfolding clap_on_literals
no_words_give_none = refl

forms_are_simple : is_simple forms ≡ true
forms_are_simple = refl

forms_are_free : is_simple_and_free forms ≡ true
forms_are_free = refl

pub returns-in-Ok-clause-no_form : goal.returns-in-Ok-clause-no_form
returns-in-Ok-clause-no_form c =
    let same = c.in-Ok.ensures.matches (ap is_simple c.in_ok-command.ensures ∙ forms_are_simple) in
    let given : subcommand_rows_of c.in-Ok.matches ≡ subcommand_of forms (map string_bytes c.args.words.now) =
    same.1 ∙ ap (λ a. subcommand_of a (map string_bytes c.args.words.now)) c.in_ok-command.ensures in
    let some : c.args.words.now ≢ [] = search rules in
    rw c.ok_or.ensures.value (no_job c.job_in.result _ _ (λ e. some (map-none _ _ e)) given c.job_in.ensures.none)

pub returns-in-Ok-clause-dash : goal.returns-in-Ok-clause-dash
returns-in-Ok-clause-dash c = λ work words_are.
    let same = c.in-Ok.ensures.matches (ap is_simple c.in_ok-command.ensures ∙ forms_are_simple) in
    let given : subcommand_rows_of c.in-Ok.matches ≡ subcommand_of forms (dash work) =
    same.1 ∙ ap₂ subcommand_of c.in_ok-command.ensures words_are in
    rw c.ok_or.ensures.value (dash_job c.job_in.result work _ (ap given_name given ∙ gives_its_name work)
    (ap given_file given ∙ gives_a_dash work) (ap given_folder given ∙ gives_no_folder work) c.job_in.ensures.work
    c.job_in.ensures.source c.job_in.ensures.folder c.job_in.ensures.none)

pub returns-in-Err-clause-no_form : goal.returns-in-Err-clause-no_form
returns-in-Err-clause-no_form c = λ is work asked.
    let kinds : HasKind (fault_of forms (map string_bytes c.args.words.now)) c.in-Err.refusal =
    subst (λ a. HasKind (fault_of a (map string_bytes c.args.words.now)) c.in-Err.refusal) c.in_ok-command.ensures
    (c.in-Err.ensures.kinds (ap is_simple_and_free c.in_ok-command.ensures ∙ forms_are_free)) in
    let some : c.args.words.now ≢ [] = search rules in
    let other : kind_of c.in-Err.refusal ≢ OutOfMemory = λ out.
    let both : NoForm ≡ Memory = sym is ∙ c.fault_of_refusal.ensures.memory out in cc in
    refused_ask_for_nothing _ work c.in-Err.refusal (λ e. some (map-none _ _ e)) kinds other asked

pub returns-in-Err-clause-dash : goal.returns-in-Err-clause-dash
returns-in-Err-clause-dash c = λ work words_are.
    c.fault_of_refusal.ensures.memory
    (c.in-Err.ensures.passes (ap₂ takes c.in_ok-command.ensures words_are ∙ is_taken work))

pub returns-then-is_empty-clause-work : goal.returns-then-is_empty-clause-work
returns-then-is_empty-clause-work c = grind (arith, common_steps)

pub returns-then-is_empty-clause-source : goal.returns-then-is_empty-clause-source
returns-then-is_empty-clause-source c = grind (arith, common_steps)

pub returns-then-is_empty-clause-folder : goal.returns-then-is_empty-clause-folder
returns-then-is_empty-clause-folder c = grind (arith, common_steps)

pub returns-then-is_empty-clause-dash : goal.returns-then-is_empty-clause-dash
returns-then-is_empty-clause-dash c = grind (arith, common_steps)

pub returns-in-Ok-clause-source : goal.returns-in-Ok-clause-source
returns-in-Ok-clause-source c = grind (arith, elements)
