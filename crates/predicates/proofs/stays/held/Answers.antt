use Rattle.predicates.proofs.StayLemmas.{held_answers}
use Rattle.predicates.proofs.stays.held.Goals as goal

pub returns : goal.returns
returns c =
    λ q.
    let when = c.meets_stay.ensures in
    held_answers q c.args.point.now c.args.next.now _ _ c.meets_stay.result _ c.requires when.has_instant when.shares c.answer.ensures
