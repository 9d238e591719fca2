use Rattle.acceptor.proofs.RecordLemmas.{accept_kept}
use Rattle.acceptor.proofs.kept.accept_keeps_records.Goals as goal

pub returns : goal.returns
returns c = accept_kept
