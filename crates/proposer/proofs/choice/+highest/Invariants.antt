use Rattle.std.proofs.Common.{length}
use Rattle.proposer.proofs.choice.+highest.Given as goal

abbrev pub decreases-highest : goal.decreases-highest
decreases-highest l = length l.told.now
