use Rattle.std.proofs.Common.{arith}
use Rattle.std.proofs.lemmas.Grind.{common_steps, elements}
use Rattle.schedule.proofs.keyword.question_of.Goals as goal

pub returns-in-at : goal.returns-in-at
returns-in-at c = grind (arith, common_steps)

pub returns-in-cut : goal.returns-in-cut
returns-in-cut c = grind (arith, common_steps)

pub returns-in-get : goal.returns-in-get
returns-in-get c = grind (arith, common_steps)

pub returns-in-ever : goal.returns-in-ever
returns-in-ever c = grind (arith, common_steps)

pub returns-in-count : goal.returns-in-count
returns-in-count c = grind (arith, common_steps)

pub returns-in-always : goal.returns-in-always
returns-in-always c = grind (arith, elements)

pub returns-in-within : goal.returns-in-within
returns-in-within c = grind (arith, elements)
