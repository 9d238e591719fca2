use Rattle.std.proofs.Common.{true, rules}
use Rattle.tpoint.specs.Fraction.{◌≤ᶠ◌}
use Rattle.tpoint.specs.Moving.{moment}
use Rattle.tpoint.specs.Extents.{LiesIn}
use Rattle.store.proofs.PartLemmas.{part_made, rest_from}
use Rattle.store.proofs.blocks.from_on.Goals as goal

pub returns : goal.returns
returns c =
    let p = c.args.period.now in
    let from = c.args.from in
    part_made (λ t. LiesIn t p × (moment from ≤ᶠ t)) _ _ (record { begin = from; end = p.end; begin_in = true; end_in = p.end_in })
    (λ i. record { begin = from; end = c.end.ensures.value i; begin_in = true; end_in = c.end_in.ensures.value i })
    c.with.ensures.valid c.with.ensures.value (rest_from p from (search rules))
