use Rattle.std.proofs.Common.{◌-◌, length}
use Rattle.predicates.proofs.SequenceLemmas.{SoFar}
use Rattle.predicates.proofs.sequences.answer.Given as goal

abbrev pub invariant-loop-i : goal.invariant-loop-i
invariant-loop-i l = SoFar l.question l.interp l.points l.period l.area l.i l.answer

abbrev pub decreases-loop-i : goal.decreases-loop-i
decreases-loop-i l = length l.points - l.i
