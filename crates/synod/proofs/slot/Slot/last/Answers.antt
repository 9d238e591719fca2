use Rattle.std.proofs.Common.{rules}
use Rattle.synod.proofs.slot.Slot.last.Goals as goal

pub returns : goal.returns
returns c = search rules
