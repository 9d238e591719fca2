use Rattle.std.proofs.Common.{rules}
use Rattle.schedule.proofs.schedule.Schedule.last.Goals as goal

pub returns-in-Some : goal.returns-in-Some
returns-in-Some c = search rules
