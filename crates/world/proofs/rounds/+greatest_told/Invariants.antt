use Rattle.std.proofs.Common.{length}
use Rattle.world.proofs.rounds.+greatest_told.Given as goal

abbrev pub decreases-greatest_told : goal.decreases-greatest_told
decreases-greatest_told l = length l.frames.now
