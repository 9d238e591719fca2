use Rattle.std.proofs.Common.{length}
use Rattle.schedule.proofs.LinesLeft.{IsReadSoFar}
use Rattle.schedule.proofs.unread.UnreadSchedule.into_lines.Given as goal

abbrev pub invariant-loop-read : goal.invariant-loop-read
invariant-loop-read l = IsReadSoFar l.fn.self l.unread l.read.items

abbrev pub decreases-loop-read : goal.decreases-loop-read
decreases-loop-read l = length l.unread.left
