use Rattle.peers.proofs.Comparing.{AreEqualTo}
use Rattle.peers.proofs.run.are_equal.Given as goal

abbrev pub invariant-bytes : goal.invariant-bytes
invariant-bytes l = AreEqualTo l.i l.same l.given l.digest
