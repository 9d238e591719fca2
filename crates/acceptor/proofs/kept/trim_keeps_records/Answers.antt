use Rattle.acceptor.proofs.FloorLemmas.{trim_kept}
use Rattle.acceptor.proofs.kept.trim_keeps_records.Goals as goal

pub returns : goal.returns
returns c = trim_kept
