use Rattle.std.proofs.Common.{rules}
use Rattle.synod.proofs.laws.limits.Goals as goal

pub returns-clause-nodes : goal.returns-clause-nodes
returns-clause-nodes c = search rules
