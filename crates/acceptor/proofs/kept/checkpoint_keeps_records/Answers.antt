use Rattle.acceptor.proofs.FloorLemmas.{checkpoint_kept}
use Rattle.acceptor.proofs.kept.checkpoint_keeps_records.Goals as goal

pub returns : goal.returns
returns c = checkpoint_kept
