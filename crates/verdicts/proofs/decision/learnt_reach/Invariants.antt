use Rattle.std.proofs.Common.{◌≡◌, ◌+◌, take}
use Rattle.verdicts.specs.Explaining.{greatest}
use Rattle.verdicts.specs.declared.lines.LearnLine.{LearnLine}
use Rattle.verdicts.proofs.decision.learnt_reach.Given as goal

abbrev pub invariant-loop-line : goal.invariant-loop-line
invariant-loop-line l = l.reached ≡ greatest (λ (line : LearnLine). line.slot + 1) (take l.line-index l.learns)
