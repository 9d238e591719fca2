use Rattle.std.proofs.Common.{true, rules}
use Rattle.tpoint.specs.Fraction.{◌≤ᶠ◌}
use Rattle.tpoint.specs.Moving.{moment}
use Rattle.tpoint.specs.Extents.{LiesIn}
use Rattle.store.proofs.PartLemmas.{part_made, rest_to}
use Rattle.store.proofs.blocks.up_to.Goals as goal

pub returns : goal.returns
returns c =
    let p = c.args.period.now in
    let to = c.args.to in
    part_made (λ t. LiesIn t p × (t ≤ᶠ moment to)) _ _ (record { begin = p.begin; end = to; begin_in = p.begin_in; end_in = true })
    (λ i. record { begin = c.begin.ensures.value i; end = to; begin_in = c.begin_in.ensures.value i; end_in = true })
    c.with.ensures.valid c.with.ensures.value (rest_to p to (search rules))
