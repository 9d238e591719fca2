use Rattle.std.proofs.Common.{inl, inr, sym, ◌∙◌}
use Rattle.std.proofs.lemmas.Option.{get_or_from_slice_get}
use Rattle.verdicts.proofs.IndexLemmas.{found_first, found_again, same_or_not}
use Rattle.verdicts.proofs.request_index.with_request.Goals as goal

pub returns-in-None : goal.returns-in-None
returns-in-None c = found_first c.args.before.now c.args.request.now (rw c.in-None.is at c.requires)

pub returns-then-earlier : goal.returns-then-earlier
returns-then-earlier c =
    let occ = rw c.in-Some.is at c.requires in
    found_again c.args.before.now c.args.request.now c.in-Some.earlier occ c.in-Some.earlier.is_ambiguous
    (λ e. absurd (cc)) (λ e. inl e)

pub returns-else-earlier : goal.returns-else-earlier
returns-else-earlier c =
    let occ = rw c.in-Some.is at c.requires in
    let found = c.index-before-earlier.is
    ∙ get_or_from_slice_get c.args.before.now c.in-Some.earlier.first occ.first c.index-before-earlier.result occ.there in
    let tests = same_or_not c.index-before-earlier.result c.args.request.now c.ne.result c.ne.ensures in
    found_again c.args.before.now c.args.request.now c.in-Some.earlier occ c.ne.result
    (λ e. (c.if-earlier.false, sym found ∙ tests.0 e)) (λ e. inr (λ same. tests.1 e (found ∙ same)))
