use Rattle.std.proofs.Common.{rules}
use Rattle.node.proofs.sends.send_answer.Goals as goal

pub returns-in-Accepted : goal.returns-in-Accepted
returns-in-Accepted c = search rules
