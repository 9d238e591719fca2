use Rattle.restrict.proofs.Joining.{PushedTo}
use Rattle.restrict.proofs.period_cut.push_points.Given as goal

abbrev pub invariant-loop-point : goal.invariant-loop-point
invariant-loop-point l = PushedTo l.inside l.point-index l.initial.points.items l.points.items
