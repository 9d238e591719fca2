use Rattle.std.proofs.Common.{◌≡◌, filter, length}
use Rattle.schedule.specs.Lines.{is_filled}
use Rattle.schedule.proofs.lines.Lines.next.Given as goal

-- only empty lines were passed over
abbrev pub invariant-loop-line : goal.invariant-loop-line
invariant-loop-line l = filter is_filled l.self ≡ filter is_filled l.fn.self

abbrev pub decreases-loop-line : goal.decreases-loop-line
decreases-loop-line l = length l.self
