use Rattle.std.proofs.Common.{rules}
use Rattle.restrict.proofs.Joining.{one_more}
use Rattle.restrict.proofs.period_cut.push_points.Goals as goal

pub loop-point-preserved : goal.loop-point-preserved
loop-point-preserved c =
    one_more c.args.inside.now c.loop-point.point-index c.point-item.result c.from-x.result c.from-y.result c.args.points.now.items
    c.loop-point.points.items c.push.new.self.items c.loop-point-test.true c.point-item.is (search rules) (search rules)
    (search rules) c.loop-point.invariant
