use Rattle.std.proofs.Common.{rules}
use Rattle.events.proofs.fault.WorldFault.code.Goals as goal

pub returns-in-NoSuchNode : goal.returns-in-NoSuchNode
returns-in-NoSuchNode c = search rules
