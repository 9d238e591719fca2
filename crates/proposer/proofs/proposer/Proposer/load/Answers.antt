use Rattle.std.proofs.Common.{rules}
use Rattle.proposer.proofs.proposer.Proposer.load.Goals as goal

pub returns-clause-round : goal.returns-clause-round
returns-clause-round g c = search rules
