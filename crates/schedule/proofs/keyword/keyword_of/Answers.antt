use Rattle.std.proofs.Common.{arith}
use Rattle.std.proofs.lemmas.Grind.{common_steps, elements}
use Rattle.schedule.proofs.keyword.keyword_of.Goals as goal

pub returns-in-drop : goal.returns-in-drop
returns-in-drop c = grind (arith, common_steps)

pub returns-in-tick : goal.returns-in-tick
returns-in-tick c = grind (arith, common_steps)

pub returns-in-trim : goal.returns-in-trim
returns-in-trim c = grind (arith, common_steps)

pub returns-in-nodes : goal.returns-in-nodes
returns-in-nodes c = grind (arith, common_steps)

pub returns-in-flush : goal.returns-in-flush
returns-in-flush c = grind (arith, common_steps)

pub returns-in-fault : goal.returns-in-fault
returns-in-fault c = grind (arith, common_steps)

pub returns-in-round : goal.returns-in-round
returns-in-round c = grind (arith, common_steps)

pub returns-in-deliver : goal.returns-in-deliver
returns-in-deliver c = grind (arith, elements)

pub returns-in-timeout : goal.returns-in-timeout
returns-in-timeout c = grind (arith, elements)

pub returns-in-restart : goal.returns-in-restart
returns-in-restart c = grind (arith, elements)

pub returns-in-checkpoint : goal.returns-in-checkpoint
returns-in-checkpoint c = grind (arith, elements)
