use Rattle.std.proofs.Common.{rules}
use Rattle.sqlstable.proofs.storage.SqlStable.blame.Goals as goal

pub returns-after-self-clause-device : goal.returns-after-self-clause-device
returns-after-self-clause-device g c = search rules
