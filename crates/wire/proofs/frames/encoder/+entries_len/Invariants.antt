use Rattle.std.proofs.Common.{length}
use Rattle.wire.proofs.frames.encoder.+entries_len.Given as goal

abbrev pub decreases-entries_len : goal.decreases-entries_len
decreases-entries_len l = length l.entries.now
