use Rattle.std.proofs.Common.{rules}
use Rattle.sessions.proofs.request.is_short.Goals as goal

pub returns-in-Put : goal.returns-in-Put
returns-in-Put c = search rules
