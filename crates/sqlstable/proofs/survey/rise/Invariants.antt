use Rattle.std.proofs.Common.{length}
use Rattle.sqlstable.specs.Lists.{AreRising}
use Rattle.sqlstable.proofs.survey.rise.Given as goal

abbrev pub invariant-loop-rest : goal.invariant-loop-rest
invariant-loop-rest l = AreRising l.rest → AreRising l.fn.numbers

abbrev pub decreases-loop-rest : goal.decreases-loop-rest
decreases-loop-rest l = length l.rest
