use Rattle.std.proofs.Common.{ℕ, List, [], ◌∷◌, get_or, sym, ap, ◌∙◌, ◌++◌}
use Rattle.std.proofs.lemmas.List.{append-nil, take_all}
use Rattle.std.proofs.lemmas.Option.{slice_get-get_or}
use Rattle.verdicts.proofs.SearchLemmas.{branches_more}
use Rattle.verdicts.specs.Search.{branch_at, branches_at}
use Rattle.verdicts.specs.declared.search.Branch.{Branch}
use Rattle.verdicts.proofs.search.add_branches.Goals as goal

pub loop-place-init : goal.loop-place-init
loop-place-init c = sym (append-nil c.args.branches.now.items)

pub loop-place-preserved : goal.loop-place-preserved
loop-place-preserved c =
    let place : ℕ = get_or c.args.places.now c.loop-place.place-index 0 in
    c.in_ok-push.ensures.items ∙ ap (λ (l : List Branch). l ++ branch_at c.args.slot place ∷ []) c.loop-place.invariant
    ∙ branches_more c.args.slot c.args.places.now c.loop-place.place-index place c.args.branches.now.items
    (slice_get-get_or c.args.places.now c.loop-place.place-index 0 c.loop-place-test.true)

pub returns : goal.returns
returns c =
    c.loop-place.invariant
    ∙ ap (λ (l : List ℕ). c.args.branches.now.items ++ branches_at c.args.slot l)
    (take_all c.loop-place.place-index c.args.places.now c.loop-place-test.false)
