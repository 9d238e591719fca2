use Rattle.std.proofs.Common.{rules}
use Rattle.node.proofs.replica.Replica.on_prepare.Goals as goal

-- the acceptor has answered, and its answer is sent
pub returns-clause-takes : goal.returns-clause-takes
returns-clause-takes g c = (c.in_ok-answer.answer, c.in_ok-answer.ensures.answer, search rules, search rules)
