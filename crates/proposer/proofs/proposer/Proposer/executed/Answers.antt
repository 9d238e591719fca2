use Rattle.std.proofs.Common.{rules}
use Rattle.proposer.proofs.proposer.Proposer.executed.Goals as goal

pub returns-clause-rest : goal.returns-clause-rest
returns-clause-rest c = search rules

pub returns-clause-gone : goal.returns-clause-gone
returns-clause-gone c = search rules
