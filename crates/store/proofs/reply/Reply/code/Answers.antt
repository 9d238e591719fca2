use Rattle.std.proofs.Common.{rules}
use Rattle.store.proofs.reply.Reply.code.Goals as goal

pub returns-in-Unknown : goal.returns-in-Unknown
returns-in-Unknown c = search rules
