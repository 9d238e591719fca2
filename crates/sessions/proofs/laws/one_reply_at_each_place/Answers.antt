use Rattle.sessions.proofs.Executions.{one_reply}
use Rattle.sessions.proofs.laws.one_reply_at_each_place.Goals as goal

pub returns : goal.returns
returns c = one_reply
