use Rattle.std.proofs.Common.{rules}
use Rattle.stable.proofs.scripted.Scripted.new.Goals as goal

pub returns-clause-unarmed : goal.returns-clause-unarmed
returns-clause-unarmed g c = search rules
