use Rattle.std.proofs.Common.{◌≡◌, take}
use Rattle.verdicts.specs.Explaining.{greatest, position_of}
use Rattle.verdicts.specs.declared.lines.ToldLine.{ToldLine}
use Rattle.verdicts.proofs.decision.told_reach.Given as goal

abbrev pub invariant-loop-line : goal.invariant-loop-line
invariant-loop-line l = l.reached ≡ greatest (λ (line : ToldLine). position_of line.told) (take l.line-index l.told)
