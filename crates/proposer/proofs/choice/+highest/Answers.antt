use Rattle.std.proofs.lemmas.Grind.{common_steps}
use Rattle.std.proofs.Common.{arith}
use Rattle.proposer.proofs.choice.+highest.Goals as goal

pub returns-in-Some : goal.returns-in-Some
returns-in-Some t c = grind (arith, common_steps)

pub returns-in_default : goal.returns-in_default
returns-in_default t c = grind (arith, common_steps)
