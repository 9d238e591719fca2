use Rattle.std.proofs.Common.{◌≡◌, ◌∷◌, ◌++◌, ◌+◌, [], ◌<◌, List, length, take, sym, ap, ◌∙◌, subst}
use Rattle.std.proofs.lemmas.List.{take_more, take_all}
use Rattle.std.specs.BTreeMap.{get}
use Rattle.sessions.specs.declared.submission.Submission.{Submission}
use Rattle.verdicts.specs.RequestIndex.{IsFound, key_cmp}
use Rattle.verdicts.proofs.IndexLemmas.{indexed_by, found_by}
use Rattle.verdicts.proofs.request_index.index_requests.Goals as goal

pub with_request-occurrence-requires : goal.with_request-occurrence-requires
with_request-occurrence-requires c =
    found_by (take c.loop-at.at c.args.requests.now) c.index-requests-at.result.client c.index-requests-at.result.number c.loop-at.index
    c.client.result c.value.result c.copied-found.result c.client.ensures (c.value.ensures.value ∙ c.number.ensures)
    (c.copied-found.ensures ∙ c.get.ensures.value) c.loop-at.invariant

pub loop-at-preserved : goal.loop-at-preserved
loop-at-preserved c =
    let within : c.loop-at.at < length c.args.requests.now = c.loop-at-test.true in
    let r : Submission = c.index-requests-at.result in
    let more : take (c.loop-at.at + 1) c.args.requests.now ≡ take c.loop-at.at c.args.requests.now ++ r ∷ [] =
    take_more c.args.requests.now c.loop-at.at r within
    ∙ ap (λ (x : Submission). take c.loop-at.at c.args.requests.now ++ x ∷ []) (sym c.index-requests-at.is) in
    λ client number. subst (λ (before : List Submission). IsFound before client number (get key_cmp c.insert.new.self (client, number))) (sym more)
    (indexed_by (take c.loop-at.at c.args.requests.now) r c.loop-at.index c.insert.new.self c.with_request-occurrence.result
    c.client.result c.value.result c.client.ensures (c.value.ensures.value ∙ c.number.ensures) c.loop-at.invariant
    c.in_ok-insert.ensures.updates c.with_request-occurrence.ensures client number)

pub returns : goal.returns
returns c = record {
  each = λ client number.
      subst (λ (l : List Submission). IsFound l client number (get key_cmp c.loop-at.index (client, number)))
      (take_all c.loop-at.at c.args.requests.now c.loop-at-test.false) (c.loop-at.invariant client number);
}
