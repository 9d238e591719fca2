use Rattle.std.proofs.Common.{arith}
use Rattle.tpoint.proofs.PlaceLemmas.{at_read_more, at_all}
use Rattle.store.specs.Bounds.{Holds}
use Rattle.store.proofs.BoundsLemmas.{wider_each}
use Rattle.store.proofs.bounds.Bounds.of.Goals as goal

pub loop-k-preserved : goal.loop-k-preserved
loop-k-preserved c =
    let ps = c.args.points.now in
    let l = c.loop-k in
    let w = c.with-bounds in
    at_read_more ps (Holds w.result) l.k c.index-points-k.result (omega arith) c.index-points-k.is w.ensures.added
    (λ j h. wider_each l.bounds w.result ps j w.ensures.had (l.invariant j h))

pub returns : goal.returns
returns c =
    let ps = c.args.points.now in
    record { each = at_all ps (Holds c.loop-k.bounds) c.loop-k.k (omega arith) c.loop-k.invariant }
