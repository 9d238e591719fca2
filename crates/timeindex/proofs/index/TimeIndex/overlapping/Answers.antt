use Rattle.std.proofs.Common.{◌≡◌, true, rules, ap, ◌∙◌}
use Rattle.timeindex.specs.Entries.{ids_overlapping, overlaps}
use Rattle.timeindex.proofs.TellingLemmas.{one_is_told}
use Rattle.timeindex.proofs.index.TimeIndex.overlapping.Goals as goal

-- an id was to be told
pub returns-in_err-push-clause-none : goal.returns-in_err-push-clause-none
returns-in_err-push-clause-none c = λ none.
    let p = c.args.period.now in
    let all = c.deref-entry-items.result.now in
    let same = c.deref-entry-items.ensures.value ∙ c.self.view_is in
    let over : overlaps p c.entry-item.result ≡ true = search rules in
    absurd (one_is_told p c.entry-item.result c.entry-item.result all c.loop-entry.entry-index (search rules) c.entry-item.is over
    (ap (λ es. ids_overlapping es p) same ∙ none))

-- all are told
pub returns-clause-none : goal.returns-clause-none
returns-clause-none c = search rules
