use Rattle.std.proofs.Common.{◌≡◌, ◌∙◌, ◌<◌, ◌≤◌, ◌++◌, ◌∷◌, ℕ, List, [], length, None, false, suc, refl, sym, ap, subst, arith, rules}
use Rattle.std.specs.List.{list_any}
use Rattle.std.specs.Map.{lookup, values_of}
use Rattle.sessions.specs.declared.submission.Submission.{Submission}
use Rattle.proposer.specs.declared.name.Name.{Name}
use Rattle.proposer.specs.declared.queue.TheConstants.{MOST_WAITING}
use Rattle.proposer.specs.Requests.{is_of}
use Rattle.indexmap.proofs.CallerLemmas.{insert_entry-new}
use Rattle.proposer.proofs.RequestLemmas.{is_named, found_by_name, named_push, values_push, none_found, one_more}
use Rattle.proposer.proofs.queue.Waiting.submit.Goals as goal
use Rattle.proposer.proofs.queue.Waiting.submit.Goals.{In_ok-insert}

-- the new name goes last
last : (c : In_ok-insert)
    → c.insert.new.self.entries ≡ c.self.inside.requests.entries ++ (c.new.result, c.args.request) ∷ []
last c =
    let es = c.self.inside.requests.entries in
    let fresh : list_any (is_of c.client-client.result c.number-number.result) (values_of es) ≡ false =
    rw (← c.self.view_is) at (sym c.has.ensures ∙ c.if-has.false) in
    let absent : lookup (is_named c.client-client.result c.number-number.result) es ≡ None =
    none_found _ (found_by_name c.client-client.result c.number-number.result es c.self.invariant.0 ∙ fresh) in
    c.in_ok-insert.ensures.entries ∙ insert_entry-new _ c.self.inside.requests c.new.result c.args.request
    (ap (λ (n : Name). lookup (is_named n.client n.number) es) c.new.ensures ∙ absent)

-- each name is its request's, and there was a place for one more
pub invariant_of-self-2 : goal.invariant_of-self-2
invariant_of-self-2 c =
    let es = c.self.inside.requests.entries in (
      rw (last (goal.at.invariant_of-self-2 c).In_ok-insert) (named_push es c.new.result c.args.request c.self.invariant.0
          (ap (λ (n : Name). n.client) c.new.ensures ∙ c.client-client.ensures)
          (ap (λ (n : Name). n.number) c.new.ensures ∙ c.number-number.ensures)),
      one_more _ _ _ c.in_ok-insert.ensures.len (search rules),
    )

pub returns-clause-last : goal.returns-clause-last
returns-clause-last c = λ _.
    let es = c.self.inside.requests.entries in
    rw (← c.self.view_is) (rw (last (goal.at.returns-clause-last c).In_ok-insert) (values_push es c.new.result c.args.request))

-- as many wait as the map has names
as_many : (es : List (Name × Submission)) (held : List Submission) → values_of es ≡ held → length es ≡ length held
as_many [] held is = rw (sym is) refl
as_many (e ∷ es) held is = rw (sym is) (ap suc (as_many es (values_of es) refl))

has_room : (es : List (Name × Submission)) (held : List Submission) (n : ℕ) → values_of es ≡ held → n ≡ length es → n < MOST_WAITING
    → ¬ MOST_WAITING ≤ length held
has_room es held n is many room full = absurd (let same = as_many es held is in omega arith)

pub returns-then-len-ge-MOST_WAITING-clause-full : goal.returns-then-len-ge-MOST_WAITING-clause-full
returns-then-len-ge-MOST_WAITING-clause-full c = λ _.
    subst (λ (n : ℕ). MOST_WAITING ≤ n) (c.len.ensures.len ∙ as_many c.self.inside.requests.entries _ c.self.view_is)
    c.if-len-ge-MOST_WAITING.true

pub returns-in_err-insert-clause-full_refused : goal.returns-in_err-insert-clause-full_refused
returns-in_err-insert-clause-full_refused c = λ _ full.
    absurd (has_room c.self.inside.requests.entries _ _ c.self.view_is c.len.ensures.len c.if-len-ge-MOST_WAITING.false full)

pub returns-clause-full_refused : goal.returns-clause-full_refused
returns-clause-full_refused c = λ _ full.
    absurd (has_room c.self.inside.requests.entries _ _ c.self.view_is c.len.ensures.len c.if-len-ge-MOST_WAITING.false full)
