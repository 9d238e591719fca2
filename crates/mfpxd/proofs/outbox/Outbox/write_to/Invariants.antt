use Rattle.std.proofs.Common.{length}
use Rattle.mfpxd.specs.Streams.{Writes}
use Rattle.mfpxd.proofs.outbox.Outbox.write_to.Given as goal

-- what was written so far stood in front of what waits
abbrev pub invariant-loop-self : goal.invariant-loop-self
invariant-loop-self g l = Writes l.fn.self l.self-inside.bytes.items (g.W.Write.contents l.fn.stream) (g.W.Write.contents l.stream)

abbrev pub decreases-loop-self : goal.decreases-loop-self
decreases-loop-self g l = length l.self-inside.bytes.items
