use Rattle.std.proofs.Common.{sym}
use Rattle.wire.proofs.BallotLemmas.{ballot_is}
use Rattle.wire.proofs.frames.value_reader.made.Goals as goal

pub returns : goal.returns
returns c = sym (ballot_is _)
