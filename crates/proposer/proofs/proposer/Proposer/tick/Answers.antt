use Rattle.std.proofs.Common.{rules}
use Rattle.proposer.proofs.proposer.Proposer.tick.Goals as goal

pub returns-in-Some-clause-sends : goal.returns-in-Some-clause-sends
returns-in-Some-clause-sends c = search rules
