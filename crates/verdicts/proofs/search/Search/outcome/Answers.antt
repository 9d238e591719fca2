use Rattle.std.proofs.Common.{◌<◌, Contains, List, length, refl, sym, subst, ◌∙◌}
use Rattle.std.proofs.lemmas.List.Elements.{All-contains}
use Rattle.std.proofs.lemmas.Option.{slice_get_read, slice_get-get_or}
use Rattle.verdicts.specs.Search.{IsBehind}
use Rattle.verdicts.specs.declared.search.Branch.{Branch}
use Rattle.verdicts.proofs.IndexLemmas.{contains_from_get}
use Rattle.verdicts.proofs.SearchLemmas.{choice_left, last_contradiction, no_element, none_last, not_none}
use Rattle.verdicts.proofs.TryingLemmas.{last_left}
use Rattle.verdicts.proofs.search.Search.outcome.Goals as goal

pub bounds-requests-branch : goal.bounds-requests-branch
bounds-requests-branch c =
    let there = rw c.deref.ensures.value at (sym (c.copied-next.ensures ∙ c.last.ensures.value) ∙ c.in-Some.is) in
    All-contains (IsBehind c.args.requests.now) c.args.self.now.untried.items c.in-Some.branch c.requires.placed
    (contains_from_get c.args.self.now.untried.items _ c.in-Some.branch there)

pub returns-in-Some : goal.returns-in-Some
returns-in-Some c = λ names questions leaving many.
    let there = rw c.deref.ensures.value at (sym (c.copied-next.ensures ∙ c.last.ensures.value) ∙ c.in-Some.is) in
    let contained : Contains c.args.self.now.untried.items c.in-Some.branch =
    contains_from_get c.args.self.now.untried.items _ c.in-Some.branch there in
    let within : c.in-Some.branch.place < length c.args.requests.now =
    All-contains (IsBehind c.args.requests.now) c.args.self.now.untried.items c.in-Some.branch c.requires.placed contained in
    let request_there = slice_get_read c.args.requests.now (length c.args.requests.now) c.in-Some.branch.place
    c.index-requests-branch.result refl within c.index-requests-branch.is in
    let more =
    many (λ empty. no_element c.in-Some.branch (subst (λ (bs : List Branch). Contains bs c.in-Some.branch) empty contained)) in
    let tried = last_left c.args.requests.now names questions c.args.told.now c.args.self.now leaving c.in-Some.branch
    c.index-requests-branch.result there request_there more.count more.many more.has_tried in
    rw c.undecided.ensures (
      choice_left c.args.requests.now names questions c.args.told.now c.args.self.now leaving c.in-Some.branch contained
          c.index-requests-branch.result request_there,
      tried,
    )

pub returns-in-Some-unlearnt : goal.returns-in-Some-unlearnt
returns-in-Some-unlearnt c = λ names questions leaving many. rw c.in-Some-unlearnt.is at leaving.state.unlearnt

pub bounds-told-contradiction : goal.bounds-told-contradiction
bounds-told-contradiction c = rw c.in-Some-latest.is at c.requires.within

pub bounds-told-contradiction-in-Some-latest : goal.bounds-told-contradiction-in-Some-latest
bounds-told-contradiction-in-Some-latest c = rw c.in-Some-latest.is at c.requires.within

pub returns-in-Some-latest : goal.returns-in-Some-latest
returns-in-Some-latest c = λ names questions leaving many.
    let last = rw c.deref.ensures.value at (sym (c.copied-next.ensures ∙ c.last.ensures.value) ∙ c.in_default.is) in
    let within = rw c.in-Some-latest.is at c.requires.within in
    last_contradiction c.args.requests.now names questions c.args.told.now c.args.self.now leaving
    (none_last c.args.self.now.untried.items last) c.in_default-unlearnt.is c.in-Some-latest.contradiction _ c.in-Some-latest.is
    (slice_get-get_or c.args.told.now c.in-Some-latest.contradiction.at _ within)

pub returns-in-None : goal.returns-in-None
returns-in-None c = λ names questions leaving many.
    let last = rw c.deref.ensures.value at (sym (c.copied-next.ensures ∙ c.last.ensures.value) ∙ c.in_default.is) in
    absurd (not_none c.args.requests.now names questions c.args.told.now c.args.self.now leaving
    (none_last c.args.self.now.untried.items last) c.in_default-unlearnt.is c.in-None.is)
