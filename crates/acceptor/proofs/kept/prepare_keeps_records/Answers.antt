use Rattle.acceptor.proofs.RecordLemmas.{prepare_kept}
use Rattle.acceptor.proofs.kept.prepare_keeps_records.Goals as goal

pub returns : goal.returns
returns c = prepare_kept
