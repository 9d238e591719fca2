use Rattle.std.proofs.Common.{refl}
use Rattle.sqlstable.proofs.fault.fault_of.Goals as goal

pub returns-in-SqliteFailure-OutOfMemory-clause-memory : goal.returns-in-SqliteFailure-OutOfMemory-clause-memory
returns-in-SqliteFailure-OutOfMemory-clause-memory c = λ is. refl
