use Rattle.schedule.proofs.One.{one_schedule}
use Rattle.schedule.proofs.laws.schedules_are_one.Goals as goal

pub returns : goal.returns
returns c = one_schedule
