use Rattle.fleetmap.proofs.PageLemmas.{all_still_ok}
use Rattle.fleetmap.proofs.marks.draw_marks.Goals as goal

pub returns-clause-marked : goal.returns-clause-marked
returns-clause-marked c =
    all_still_ok c.draw_ids.result c.args.db.now c.args.shown.now _ _ c.in_ok-draw_spots.ensures.marked c.draw_ids.ensures
