use Rattle.std.proofs.Common.{length}
use Rattle.sqlstable.specs.Lists.{AreSoundRows}
use Rattle.sqlstable.proofs.survey.are_sound.Given as goal

abbrev pub invariant-loop-rest : goal.invariant-loop-rest
invariant-loop-rest l = AreSoundRows l.rest → AreSoundRows l.fn.rows

abbrev pub decreases-loop-rest : goal.decreases-loop-rest
decreases-loop-rest l = length l.rest
