use Rattle.std.proofs.Common.{length}
use Rattle.world.proofs.rounds.+has_repeats.Given as goal

abbrev pub decreases-has_repeats : goal.decreases-has_repeats
decreases-has_repeats l = length l.nodes.now
