use Rattle.std.proofs.Common.{rules}
use Rattle.sessions.proofs.machine.Machine.execute_request.Goals as goal

pub returns-then-not-is_next-clause-effect : goal.returns-then-not-is_next-clause-effect
returns-then-not-is_next-clause-effect c = search rules

pub returns-clause-effect : goal.returns-clause-effect
returns-clause-effect c = search rules
