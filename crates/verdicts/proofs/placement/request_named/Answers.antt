use Rattle.std.proofs.Common.{◌∙◌, refl}
use Rattle.std.proofs.lemmas.Option.{get_or_from_slice_get}
use Rattle.verdicts.proofs.NameLemmas.{none_named, one_named}
use Rattle.verdicts.proofs.placement.request_named.Goals as goal

pub returns-in-None : goal.returns-in-None
returns-in-None c = none_named c.args.requests.now c.args.client c.args.number (rw c.in-None.is at c.requires)

pub returns-then-occurrence : goal.returns-then-occurrence
returns-then-occurrence c =
    let occ = rw c.in-Some.is at c.requires in (refl, occ.ambiguous c.if-occurrence.true)

pub returns-in_ok-request-in-Some : goal.returns-in_ok-request-in-Some
returns-in_ok-request-in-Some c =
    let occ = rw c.in-Some.is at c.requires in
    let found = c.index-requests-occurrence.is
    ∙ get_or_from_slice_get c.args.requests.now c.in-Some.occurrence.first occ.first c.index-requests-occurrence.result occ.there in
    let copy = c.in_ok-request-in-Some.ensures.cases in
    one_named c.args.requests.now c.args.client c.args.number c.in-Some.occurrence occ c.if-occurrence.false c.in_ok-request-in-Some.request
    (copy ∙ found)
