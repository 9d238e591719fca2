use Rattle.std.proofs.lemmas.Result.{IfOk-weaker}
use Rattle.fault_report.proofs.documents.tell_document.Goals as goal

pub returns : goal.returns
returns c = IfOk-weaker c.write_document.result _ _
    (λ text is. record { line = c.line_at-line.result.number; column = c.saturating_add-column.result; rest = c.as_str-2.result.now; told = is })
    c.write_document.ensures
