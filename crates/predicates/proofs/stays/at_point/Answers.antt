use Rattle.predicates.proofs.StayLemmas.{point_answers}
use Rattle.predicates.proofs.stays.at_point.Goals as goal

pub returns : goal.returns
returns c =
    λ q. point_answers q c.args.point.now _ _ c.in_period.result _ c.in_period.ensures.has_instant
    c.in_period.ensures.in_period c.answer.ensures
