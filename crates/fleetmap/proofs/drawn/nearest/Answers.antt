-- A coordinate at most a span from the edge is drawn within the chart.
use Rattle.std.proofs.Common.{ℕ, ◌+◌, ◌*◌, ◌<◌, ◌≤◌, arith}
use Rattle.std.proofs.lemmas.Nat.{div_below}
use Prim.Native.Nat.{◌/◌}
use Rattle.fleetmap.proofs.drawn.nearest.Goals as goal

on_chart : (far unit : ℕ) → far ≤ unit → 1 ≤ unit → (208000 * far + unit) / (2 * unit) < 104001
on_chart far unit within one = div_below (208000 * far + unit) (2 * unit) 104001 (omega arith) (omega arith)

pub overflow_cast-result-2 : goal.overflow_cast-result-2
overflow_cast-result-2 c =
    let below = on_chart c.args.far c.args.unit c.requires.within c.requires.not_empty in
    omega (arith, below)

pub returns-clause-on_chart : goal.returns-clause-on_chart
returns-clause-on_chart c =
    let below = on_chart c.args.far c.args.unit c.requires.within c.requires.not_empty in
    omega (arith, below)
