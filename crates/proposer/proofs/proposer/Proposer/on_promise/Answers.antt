use Rattle.std.proofs.Common.{rules}
use Rattle.proposer.proofs.proposer.Proposer.on_promise.Goals as goal

pub returns-clause-rest : goal.returns-clause-rest
returns-clause-rest c = search rules
