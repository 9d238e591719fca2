use Rattle.std.proofs.Common.{◌≡◌, ◌++◌, drop}
use Rattle.story.specs.Ranges.{ranges_from, ranges_of}
use Rattle.story.proofs.ranges.list_ranges.Given as goal

-- the ranges so far, and behind them those of the flags that are left
abbrev pub invariant-loop-number : goal.invariant-loop-number
invariant-loop-number l = l.ranges.items ++ ranges_from l.before l.number (drop l.number l.waiting) ≡ ranges_of l.waiting
