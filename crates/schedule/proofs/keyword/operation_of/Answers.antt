use Rattle.std.proofs.Common.{arith}
use Rattle.std.proofs.lemmas.Grind.{common_steps, elements}
use Rattle.schedule.proofs.keyword.operation_of.Goals as goal

pub returns-in-put : goal.returns-in-put
returns-in-put c = grind (arith, common_steps)

pub returns-in-append : goal.returns-in-append
returns-in-append c = grind (arith, elements)

pub returns-in-remove : goal.returns-in-remove
returns-in-remove c = grind (arith, elements)
