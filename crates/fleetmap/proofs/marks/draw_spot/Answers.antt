use Rattle.fleetmap.proofs.PageLemmas.{marked_ok, unmarked}
use Rattle.fleetmap.proofs.marks.draw_spot.Goals as goal

pub returns-in-Some-clause-marked : goal.returns-in-Some-clause-marked
returns-in-Some-clause-marked c =
    marked_ok c.draw_mark.result c.args.db.now c.args.shown.now c.args.at _ _ _ _ _ c.in-Some.ensures c.draw_mark.ensures

pub returns-in-None-clause-marked : goal.returns-in-None-clause-marked
returns-in-None-clause-marked c = unmarked c.args.db.now c.args.shown.now c.args.at _ c.in-None.ensures
