use Rattle.std.proofs.Common.{rules}
use Rattle.proposer.proofs.sizes.limits.Goals as goal

pub returns-clause-waiting : goal.returns-clause-waiting
returns-clause-waiting c = search rules
