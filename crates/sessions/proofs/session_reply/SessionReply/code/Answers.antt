use Rattle.std.proofs.Common.{rules}
use Rattle.sessions.proofs.session_reply.SessionReply.code.Goals as goal

pub returns-in-Past : goal.returns-in-Past
returns-in-Past c = search rules
