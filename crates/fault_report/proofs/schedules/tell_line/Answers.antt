use Rattle.std.proofs.lemmas.Result.{IfOk-weaker}
use Rattle.fault_report.proofs.schedules.tell_line.Goals as goal

pub returns : goal.returns
returns c = IfOk-weaker c.write_line.result _ _
    (λ text is. record { column = c.saturating_add-column.result; rest = c.as_str-2.result.now; told = is }) c.write_line.ensures
