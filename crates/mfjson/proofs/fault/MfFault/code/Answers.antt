use Rattle.std.proofs.Common.{rules}
use Rattle.mfjson.proofs.fault.MfFault.code.Goals as goal

pub returns-in-Empty : goal.returns-in-Empty
returns-in-Empty c = search rules

pub returns-in-TooMany : goal.returns-in-TooMany
returns-in-TooMany c = search rules
