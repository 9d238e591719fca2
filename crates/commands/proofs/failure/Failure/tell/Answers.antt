use Rattle.std.proofs.lemmas.Grind.{common_steps}
use Rattle.std.proofs.Common.{arith, rules}
use Rattle.commands.proofs.failure.Failure.tell.Goals as goal

pub returns-in-Schedule : goal.returns-in-Schedule
returns-in-Schedule g c = grind (arith, common_steps)

pub returns-in-NotEmpty : goal.returns-in-NotEmpty
returns-in-NotEmpty g c = search (rules, c.in-NotEmpty.is)

pub returns-in-Usage : goal.returns-in-Usage
returns-in-Usage g c = search (rules, c.in-Usage.is)

pub returns-in-Device : goal.returns-in-Device
returns-in-Device g c = search (rules, c.in-Device.is)
