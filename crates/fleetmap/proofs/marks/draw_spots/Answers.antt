use Rattle.std.proofs.Common.{arith}
use Rattle.picture.proofs.Growth.{grows_on}
use Rattle.fleetmap.proofs.PageLemmas.{all_marked, one_more_marked}
use Rattle.fleetmap.proofs.marks.draw_spots.Goals as goal

pub loop-at-preserved : goal.loop-at-preserved
loop-at-preserved c = record {
  grows = grows_on _ _ _ c.loop-at.invariant.grows c.in_ok-draw_spot.ensures.grows;
  marked = one_more_marked c.args.db.now c.args.shown.now c.loop-at.at _ _ c.loop-at.invariant.marked c.in_ok-draw_spot.ensures.grows
      c.in_ok-draw_spot.ensures.marked;
}

pub returns-clause-marked : goal.returns-clause-marked
returns-clause-marked c =
    all_marked c.args.db.now c.args.shown.now c.loop-at.at _ (omega arith) c.loop-at.invariant.marked
