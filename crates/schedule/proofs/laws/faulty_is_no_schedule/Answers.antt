use Rattle.schedule.proofs.NoSchedule.{faulty_is_none}
use Rattle.schedule.proofs.laws.faulty_is_no_schedule.Goals as goal

pub returns : goal.returns
returns c = faulty_is_none
