use Rattle.std.proofs.Common.{rules}
use Rattle.tpoint.proofs.faults.SeqFault.code.Goals as goal

pub returns-in-NotIncreasing : goal.returns-in-NotIncreasing
returns-in-NotIncreasing c = search rules

pub returns-in-Range : goal.returns-in-Range
returns-in-Range c = search rules
