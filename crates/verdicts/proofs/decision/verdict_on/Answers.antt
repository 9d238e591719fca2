use Rattle.std.proofs.Common.{◌<◌, ◌≤◌, ℕ, All, sym, subst, ◌∙◌}
use Rattle.verdicts.specs.Explaining.{position_of}
use Rattle.verdicts.specs.Placement.{AreNames, IsEarly}
use Rattle.verdicts.specs.declared.lines.LearnLine.{LearnLine}
use Rattle.verdicts.specs.declared.lines.ToldLine.{ToldLine}
use Rattle.verdicts.proofs.VerdictLemmas.{early_verdict, later_found, slots_below, positions_within}
use Rattle.verdicts.proofs.decision.verdict_on.Goals as goal

pub place_learns-requires : goal.place_learns-requires
place_learns-requires c =
    subst (λ (n : ℕ). All (λ (line : LearnLine). line.slot < n) c.args.learns.now) (sym c.reach-size.ensures)
    (slots_below c.args.learns.now c.args.told.now)

pub returns-in-Ends : goal.returns-in-Ends
returns-in-Ends c =
    let placed = c.in_ok-verdict.ensures c.args.requests.now c.in_ok-index.ensures in
    let early = rw c.in-Ends.is at placed in
    early_verdict c.args.requests.now c.args.questions.now c.args.learns.now c.args.told.now c.in-Ends.verdict
    (subst (λ (n : ℕ). IsEarly c.args.requests.now n c.args.learns.now c.in-Ends.verdict) c.reach-size.ensures early)

pub try_choices-requires-clause-submitted : goal.try_choices-requires-clause-submitted
try_choices-requires-clause-submitted c =
    let placed = c.in_ok-verdict.ensures c.args.requests.now c.in_ok-index.ensures in
    let names = rw c.in-Names.is at placed in rw c.deref.ensures.value names.submitted

pub try_choices-requires-clause-reached : goal.try_choices-requires-clause-reached
try_choices-requires-clause-reached c =
    let placed = c.in_ok-verdict.ensures c.args.requests.now c.in_ok-index.ensures in
    let names = rw c.in-Names.is at placed in
    rw c.deref.ensures.value
    (subst (λ (n : ℕ). All (λ (line : ToldLine). position_of line.told ≤ n) c.args.told.now) (sym (names.count ∙ c.reach-size.ensures))
    (positions_within c.args.learns.now c.args.told.now))

pub returns : goal.returns
returns c =
    let placed = c.in_ok-verdict.ensures c.args.requests.now c.in_ok-index.ensures in
    let names = subst (λ (n : ℕ). AreNames c.args.requests.now n c.args.learns.now c.in-Names.names.items) c.reach-size.ensures
    (rw c.in-Names.is at placed) in
    let said = rw c.deref.ensures.value at c.try_choices.ensures in
    later_found c.args.requests.now c.args.questions.now c.args.learns.now c.args.told.now c.in-Names.names.items names
    c.try_choices.result said
