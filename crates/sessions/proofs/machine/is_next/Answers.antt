use Rattle.std.proofs.Common.{rules}
use Rattle.sessions.proofs.machine.is_next.Goals as goal

pub returns : goal.returns
returns c = search rules
