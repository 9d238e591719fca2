use Rattle.std.proofs.Common.{rules}
use Rattle.commands.proofs.failure.Failure.status.Goals as goal

pub returns-in-Device : goal.returns-in-Device
returns-in-Device c = search rules
