use Rattle.commands.proofs.Endings.{check_ends}
use Rattle.commands.proofs.documents.check.Goals as goal

pub returns-in-Err-clause-ends : goal.returns-in-Err-clause-ends
returns-in-Err-clause-ends c =
    check_ends _ c.in-Err.fault c.document_failure.result c.in-Err.ensures.err c.document_failure.ensures.memory
    c.document_failure.ensures.told
