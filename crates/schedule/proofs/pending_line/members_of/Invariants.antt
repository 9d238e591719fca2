use Rattle.std.proofs.Common.{length}
use Rattle.schedule.specs.Words.{words_of}
use Rattle.schedule.proofs.Naming.{AreNamed}
use Rattle.schedule.proofs.pending_line.members_of.Given as goal

-- the words that were taken name the members so far
abbrev pub invariant-loop-word : goal.invariant-loop-word
invariant-loop-word l = AreNamed l.nodes (words_of l.list) l.words l.members.items

abbrev pub decreases-loop-word : goal.decreases-loop-word
decreases-loop-word l = length l.words
