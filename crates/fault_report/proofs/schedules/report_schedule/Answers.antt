use Rattle.fault_report.proofs.Told.{first_fault, schedule_report}
use Rattle.fault_report.proofs.schedules.report_schedule.Goals as goal

pub returns : goal.returns
returns c = schedule_report _ _ _ c.in-Err.refusal.line c.in-Schedule.fault
    (first_fault c.args.bytes.now c.in-Err.refusal c.in-Schedule.fault c.in-Err.ensures.refused c.in-Schedule.is) c.in_ok-told.ensures
