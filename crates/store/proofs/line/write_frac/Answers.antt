use Rattle.std.proofs.lemmas.Grind.{common_steps}
use Rattle.std.proofs.Common.{arith}
use Rattle.store.proofs.line.write_frac.Goals as goal

pub returns-clause-start : goal.returns-clause-start
returns-clause-start c = grind (arith, common_steps)

pub returns-clause-written : goal.returns-clause-written
returns-clause-written c = grind (arith, common_steps)

pub returns-clause-short : goal.returns-clause-short
returns-clause-short c = grind (arith, common_steps)
