use Rattle.std.proofs.Common.{◌≡◌, ◌<◌, List, None, Some, length, slice_get, sym, ap, subst, ◌∙◌, rules}
use Rattle.std.proofs.lemmas.List.Elements.{All-contains}
use Rattle.std.proofs.lemmas.Option.{slice_get-get_or}
use Rattle.sessions.specs.declared.command.Command.{Command}
use Rattle.verdicts.specs.Placement.{SlotIsSubmitted}
use Rattle.verdicts.specs.Search.{AreLearnt, IsExtended}
use Rattle.verdicts.proofs.IndexLemmas.{contains_from_get}
use Rattle.verdicts.proofs.SearchLemmas.{extended_by_none, extended_by_one}
use Rattle.verdicts.proofs.TryingLemmas.{learnt_by_one}
use Rattle.verdicts.proofs.search.extend.Goals as goal

pub loop-commands-init : goal.loop-commands-init
loop-commands-init c = record {
  extended = extended_by_none c.args.requests.now c.args.names.now c.args.commands.now.items c.requires.within;
  learnt = λ h. h;
}

pub returns-in-None-clause-stops : goal.returns-in-None-clause-stops
returns-in-None-clause-stops c = λ below.
    let same : c.len-slot.result ≡ length c.loop-commands.commands.items = search rules in
    slice_get-get_or c.args.names.now (length c.loop-commands.commands.items) None below ∙ ap (λ o. Some o) (rw same at c.in-None.is)

pub loop-commands-preserved : goal.loop-commands-preserved
loop-commands-preserved c =
    let same : c.len-slot.result ≡ length c.loop-commands.commands.items = search rules in
    let below : length c.loop-commands.commands.items < length c.args.names.now = search rules in
    let there : slice_get c.args.names.now (length c.loop-commands.commands.items) ≡ Some (Some c.in-Some.name) =
    slice_get-get_or c.args.names.now (length c.loop-commands.commands.items) None below ∙ ap (λ o. Some o) (rw same at c.in-Some.is) in
    let only = rw c.in-Only.is at c.in_ok-command-in-Some.ensures in
    let more = c.in_ok-push-in-Only.ensures.items in
    record {
      extended = subst (IsExtended c.args.requests.now c.args.names.now c.args.commands.now.items) (sym more)
          (extended_by_one c.args.requests.now c.args.names.now c.args.commands.now.items c.loop-commands.commands.items c.in-Some.name
          c.in-Only.command c.loop-commands.invariant.extended there only);
      learnt = λ h.
          subst (λ (l : List Command). AreLearnt c.args.names.now (length l)) (sym more)
          (learnt_by_one c.args.names.now c.loop-commands.commands.items c.in-Some.name c.in-Only.command
          (c.loop-commands.invariant.learnt h) there);
    }

pub returns-in-Nobody-clause-stops : goal.returns-in-Nobody-clause-stops
returns-in-Nobody-clause-stops c = λ below.
    let same : c.len-slot.result ≡ length c.loop-commands.commands.items = search rules in
    let there : slice_get c.args.names.now (length c.loop-commands.commands.items) ≡ Some (Some c.in-Some.name) =
    slice_get-get_or c.args.names.now (length c.loop-commands.commands.items) None below ∙ ap (λ o. Some o) (rw same at c.in-Some.is) in
    let nobody = rw c.in-Nobody.is at c.in_ok-command-in-Some.ensures in
    let submitted = All-contains (SlotIsSubmitted c.args.requests.now) c.args.names.now (Some c.in-Some.name) c.requires.submitted
    (contains_from_get c.args.names.now (length c.loop-commands.commands.items) (Some c.in-Some.name) there) in
    absurd (nobody submitted.command submitted.among submitted.named)

pub returns-in-Several-clause-stops : goal.returns-in-Several-clause-stops
returns-in-Several-clause-stops c =
    let same : c.len-slot.result ≡ length c.loop-commands.commands.items = search rules in
    let below : length c.loop-commands.commands.items < length c.args.names.now = search rules in
    let there : slice_get c.args.names.now (length c.loop-commands.commands.items) ≡ Some (Some c.in-Some.name) =
    slice_get-get_or c.args.names.now (length c.loop-commands.commands.items) None below ∙ ap (λ o. Some o) (rw same at c.in-Some.is) in
    let several = rw c.in-Several.is at c.in_ok-command-in-Some.ensures in
    (there ∙ ap (λ n. Some (Some n)) several.0, several.1)

pub returns-in-None-clause-learnt : goal.returns-in-None-clause-learnt
returns-in-None-clause-learnt c = c.loop-commands.invariant.learnt

pub returns-in-Several-clause-learnt : goal.returns-in-Several-clause-learnt
returns-in-Several-clause-learnt c = c.loop-commands.invariant.learnt

pub returns-clause-learnt : goal.returns-clause-learnt
returns-clause-learnt c = c.loop-commands.invariant.learnt
