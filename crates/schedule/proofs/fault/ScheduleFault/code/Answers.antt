use Rattle.std.proofs.Common.{rules}
use Rattle.schedule.proofs.fault.ScheduleFault.code.Goals as goal

pub returns-in-UnknownWord : goal.returns-in-UnknownWord
returns-in-UnknownWord c = search rules
