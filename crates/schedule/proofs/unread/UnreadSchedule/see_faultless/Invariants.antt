use Rattle.std.proofs.Common.{List, length}
use Rattle.schedule.specs.declared.schedule.ScheduleLine.{ScheduleLine}
use Rattle.schedule.proofs.LinesLeft.{IsReadSoFar}
use Rattle.schedule.proofs.unread.UnreadSchedule.see_faultless.Given as goal

-- what was read is kept nowhere
abbrev pub invariant-loop-unread : goal.invariant-loop-unread
invariant-loop-unread l = (read : List ScheduleLine) × IsReadSoFar l.fn.self l.unread read

abbrev pub decreases-loop-unread : goal.decreases-loop-unread
decreases-loop-unread l = length l.unread.left
