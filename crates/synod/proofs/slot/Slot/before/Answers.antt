use Rattle.std.proofs.Common.{rules}
use Rattle.synod.proofs.slot.Slot.before.Goals as goal

pub returns-in_err-value-clause-value : goal.returns-in_err-value-clause-value
returns-in_err-value-clause-value c = search rules

pub returns-clause-value : goal.returns-clause-value
returns-clause-value c = search rules
