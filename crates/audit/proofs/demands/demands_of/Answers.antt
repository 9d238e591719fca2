use Rattle.std.proofs.Common.{◌≡◌, ℕ, ◌+◌, ◌<◌, List, [], ◌∷◌, ◌++◌, length, take, sym, ap, ◌∙◌}
use Rattle.std.proofs.lemmas.List.{take_more}
use Rattle.schedule.specs.declared.schedule.ScheduleLine.{ScheduleLine}
use Rattle.audit.specs.Audits.{requests_in, questions_in}
use Rattle.audit.proofs.DemandLemmas.{demands_more}
use Rattle.audit.proofs.demands.demands_of.Goals as goal

pub loop-line-preserved : goal.loop-line-preserved
loop-line-preserved c =
    let lines : List ScheduleLine = c.deref-line-items.result.now in
    let i : ℕ = c.loop-line.line-index in
    let line : ScheduleLine = c.line-item.result in
    let within : i < length lines = c.loop-line-test.true in
    let more : take (i + 1) lines ≡ take i lines ++ line ∷ [] =
    take_more lines i line within ∙ ap (λ (x : ScheduleLine). take i lines ++ x ∷ []) (sym c.line-item.is) in (
      demands_more (λ (l : ScheduleLine). requests_in l.action) lines i line _ _ more c.loop-line.invariant.0 c.in_ok-add.ensures.requests,
      demands_more (λ (l : ScheduleLine). questions_in l.action) lines i line _ _ more c.loop-line.invariant.1 c.in_ok-add.ensures.questions,
    )
