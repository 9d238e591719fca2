use Rattle.sessions.proofs.Executions.{one_answer}
use Rattle.sessions.proofs.laws.one_answer_to_each_query.Goals as goal

pub returns : goal.returns
returns c = one_answer
