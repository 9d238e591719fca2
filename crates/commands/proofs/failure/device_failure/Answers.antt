use Rattle.std.proofs.Common.{rules}
use Rattle.commands.proofs.failure.device_failure.Goals as goal

pub returns-in-OutOfMemory-clause-memory : goal.returns-in-OutOfMemory-clause-memory
returns-in-OutOfMemory-clause-memory c = search rules
