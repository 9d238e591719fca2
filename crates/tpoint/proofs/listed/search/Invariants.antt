use Rattle.std.proofs.Common.{◌≡◌, ◌-◌}
use Rattle.tpoint.proofs.Halving.{Narrowed}
use Rattle.tpoint.proofs.listed.search.Given as goal

abbrev pub invariant-loop-low : goal.invariant-loop-low
invariant-loop-low g l =
    let instants = g.L.Listed.instants in
    let probes = g.L.Listed.probes in
    (instants l.list ≡ instants l.initial.list)
    × Narrowed (instants l.initial.list) l.t l.low l.high (probes l.initial.list) (probes l.list)

abbrev pub decreases-loop-low : goal.decreases-loop-low
decreases-loop-low g l = l.high - l.low
