use Rattle.acceptor.proofs.FloorLemmas.{promise_outlives_trim}
use Rattle.acceptor.proofs.kept.promises_outlive_trims.Goals as goal

pub returns : goal.returns
returns c = promise_outlives_trim
