use Rattle.story.specs.Passing.{SameComings, StillSent}
use Rattle.story.proofs.passages.send_each_late.Given as goal

-- the frames came when they did, and were sent as it is said
abbrev pub invariant-loop-number : goal.invariant-loop-number
invariant-loop-number l = record {
  came : SameComings l.fn.passages l.passages;
  sent : StillSent l.frames l.first l.fn.passages l.passages;
}
