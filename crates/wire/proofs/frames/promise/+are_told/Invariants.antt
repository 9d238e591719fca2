use Rattle.std.proofs.Common.{length}
use Rattle.wire.proofs.frames.promise.+are_told.Given as goal

abbrev pub decreases-are_told : goal.decreases-are_told
decreases-are_told l = length l.entries.now
