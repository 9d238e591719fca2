use Rattle.std.proofs.Common.{◌≡◌, ◌<◌, ◌-◌, ◌++◌, ℕ, take, ◌∷◌, [], All, List, length, slice_get, Some, refl, sym, ap, subst, ◌∙◌}
use Rattle.std.proofs.lemmas.List.{append-nil}
use Rattle.std.proofs.lemmas.Option.{slice_get_read}
use Rattle.sessions.specs.declared.command.Command.{Command}
use Rattle.sessions.specs.declared.command.Command.TheVariants.{Request}
use Rattle.verdicts.specs.Search.{AreAscending, HasTried, IsBehind, IsChoice}
use Rattle.verdicts.proofs.PlaceLemmas.{all_last}
use Rattle.verdicts.proofs.SearchLemmas.{entering_next, leaving_same}
use Rattle.verdicts.proofs.TryingLemmas.{next_choice}
use Rattle.verdicts.proofs.search.Search.follow.Goals as goal

pub bounds-requests-branch : goal.bounds-requests-branch
bounds-requests-branch c =
    let popped = rw c.in-Some.is at c.pop.ensures.items in
    all_last (IsBehind c.args.requests.now) c.pop.new.self.items c.in-Some.branch (subst (All (IsBehind c.args.requests.now)) popped c.requires)

pub returns-in-None-clause-step : goal.returns-in-None-clause-step
returns-in-None-clause-step c = λ names questions told leaving.
    let popped = rw c.in-None.is at c.pop.ensures.items in
    leaving_same c.args.requests.now names questions told c.args.self.now c.pop.new.self leaving
    (popped ∙ append-nil c.pop.new.self.items)

pub returns-in_ok-push-in-Some-clause-step : goal.returns-in_ok-push-in-Some-clause-step
returns-in_ok-push-in-Some-clause-step c = λ names questions told leaving.
    let popped = rw c.in-Some.is at c.pop.ensures.items in
    let within : c.in-Some.branch.place < length c.args.requests.now =
    all_last (IsBehind c.args.requests.now) c.pop.new.self.items c.in-Some.branch (subst (All (IsBehind c.args.requests.now)) popped c.requires) in
    let read = slice_get_read c.args.requests.now (length c.args.requests.now) c.in-Some.branch.place c.index-requests-branch.result refl within
    c.index-requests-branch.is in
    let there : slice_get c.args.requests.now c.in-Some.branch.place ≡ Some c.in_ok-request-in-Some.request =
    read ∙ ap (λ r. Some r) (sym c.in_ok-request-in-Some.ensures.cases) in
    entering_next c.args.requests.now names questions told c.args.self.now c.in-Some.branch c.pop.new.self c.in_ok-request-in-Some.request
    c.push.new.self leaving popped there
    (c.in_ok-push-in-Some.ensures.items
    ∙ ap (λ (l : List Command). l ++ Request c.in_ok-request-in-Some.request ∷ []) c.truncate.ensures.items)

pub returns-in_ok-push-in-Some-clause-next : goal.returns-in_ok-push-in-Some-clause-next
returns-in_ok-push-in-Some-clause-next c = λ yes names questions told count leaving tried.
    let requests = c.args.requests.now in
    let popped = rw c.in-Some.is at c.pop.ensures.items in
    let within : c.in-Some.branch.place < length requests =
    all_last (IsBehind requests) c.pop.new.self.items c.in-Some.branch (subst (All (IsBehind requests)) popped c.requires) in
    let read = slice_get_read requests (length requests) c.in-Some.branch.place c.index-requests-branch.result refl within
    c.index-requests-branch.is in
    let there : slice_get requests c.in-Some.branch.place ≡ Some c.in_ok-request-in-Some.request =
    read ∙ ap (λ r. Some r) (sym c.in_ok-request-in-Some.ensures.cases) in
    next_choice requests names questions told c.args.self.now.commands.items c.push.new.self.items c.pop.new.self.items c.in-Some.branch
    c.in_ok-request-in-Some.request count (subst AreAscending popped leaving.state.ascending)
    (all_last (IsChoice requests names (length c.args.self.now.commands.items)) c.pop.new.self.items c.in-Some.branch
    (subst (All (IsChoice requests names (length c.args.self.now.commands.items))) popped leaving.state.choices))
    there
    (c.in_ok-push-in-Some.ensures.items
    ∙ ap (λ (l : List Command). l ++ Request c.in_ok-request-in-Some.request ∷ []) c.truncate.ensures.items)
    (subst (HasTried requests names questions told count c.args.self.now.commands.items) popped tried)

pub returns-in-None-clause-none : goal.returns-in-None-clause-none
returns-in-None-clause-none c = λ e.
    let lengths = rw c.in-None.is at c.pop.ensures.cases in
    c.pop.ensures.rest ∙ ap (λ (n : ℕ). take (n - 1) c.args.self.now.untried.items) lengths.0
